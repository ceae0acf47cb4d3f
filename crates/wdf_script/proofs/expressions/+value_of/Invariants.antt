use Rattle.wdf_script.proofs.expressions.+value_of.Given as goal

abbrev pub decreases-value_of : goal.decreases-value_of
decreases-value_of l = l.e
