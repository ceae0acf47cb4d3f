-- What the printer has written, one item after the other.
use Rattle.std.proofs.Common.{◌≡◌, ℕ, ◌+◌, ◌≤◌, true, List, [], ◌∷◌, ◌++◌, Option, refl, ap, sym, ◌∙◌, subst, arith, codes}
use Rattle.std.proofs.lemmas.List.{append-nil}
use Rattle.wdf_base.specs.declared.plan.Plan.{Plan}
use Rattle.wdf_base.specs.declared.event.Event.{Event}
use Rattle.wdf_io.specs.Outside.{Gains}
use Rattle.wdf_lines.specs.Lines.{line_text}
use Rattle.wdf_output.specs.Said.{IsCutShort, sinking}
use Rattle.wdf_output.proofs.Writing.{cut_behind, gains_more, gains_nothing}
use Rattle.wdf_pipe.specs.declared.pipe.Account.{Account}
use Rattle.wdf_pipe.specs.declared.item.Item.{Item}
use Rattle.wdf_pipe.specs.declared.item.Item.TheVariants.{Numbered, End}
use Rattle.wdf_pipe.specs.Pipe.{account}
use Rattle.wdf_live.specs.Told.{item_lines, lines_in}
use Rattle.wdf_live.proofs.Lines.{item_lines_more, lines_in_more}

-- a pass that has taken one item more
abbrev pub taking : Account → Item → Account
taking v item = account v.sends v.takes v.sent (v.taken ++ item ∷ [])

-- what was written is the lines of what was taken, which are so many, and no write failed
pub record IsPrinting (plan : Plan) (first now : Option (List ℕ)) (faults_first faults_now count : ℕ) (v : Account) : Type 0 where
  pub takes : v.takes ≡ true
  pub lines : count ≡ lines_in v.taken
  pub gained : Gains first now (item_lines plan v.taken)
  pub quiet : faults_now ≡ faults_first

pub none_printed : (plan : Plan) (now : Option (List ℕ)) (faults : ℕ) (v : Account) (sends : _) → v ≡ account sends true [] [] → IsPrinting plan now now faults faults 0 v
none_printed plan now faults v sends is = record {
  takes = ap (λ (u : Account). u.takes) is;
  lines = sym (ap (λ (u : Account). lines_in u.taken) is);
  gained = subst (λ (l : List Item). Gains now now (item_lines plan l)) (sym (ap (λ (u : Account). u.taken) is)) (gains_nothing now);
  quiet = refl;
}

-- a line more was taken
pub line_taken : (plan : Plan) (first before : Option (List ℕ)) (f0 f1 count n : ℕ) (e : Event) (v w : Account) → IsPrinting plan first before f0 f1 count v → w ≡ taking v (Numbered n e)
    → (w.takes ≡ true) × (count + 1 ≡ lines_in w.taken)
line_taken plan first before f0 f1 count n e v w p is =
    let more = ap (λ (u : Account). lines_in u.taken) is ∙ lines_in_more v.taken (Numbered n e) in
    let was = p.lines in
    (ap (λ (u : Account). u.takes) is ∙ p.takes, omega arith)

pub line_printed : (plan : Plan) (first before now : Option (List ℕ)) (f0 f1 f2 count n : ℕ) (e : Event) (v w : Account) → IsPrinting plan first before f0 f1 count v → w ≡ taking v (Numbered n e)
    → Gains before now (line_text plan n e ++ codes "\n") → f2 ≡ f1 → IsPrinting plan first now f0 f2 (count + 1) w
line_printed plan first before now f0 f1 f2 count n e v w p is gained quiet = record {
  takes = (line_taken plan first before f0 f1 count n e v w p is).0;
  lines = (line_taken plan first before f0 f1 count n e v w p is).1;
  gained = subst (λ (l : List ℕ). Gains first now l) (sym (ap (λ (u : Account). item_lines plan u.taken) is ∙ item_lines_more plan v.taken (Numbered n e)))
      (gains_more first before now (item_lines plan v.taken) (line_text plan n e ++ codes "\n") p.gained gained);
  quiet = quiet ∙ p.quiet;
}

pub line_cut : (plan : Plan) (first before now : Option (List ℕ)) (f0 f1 f2 count n : ℕ) (e : Event) (v w : Account) → IsPrinting plan first before f0 f1 count v → w ≡ taking v (Numbered n e)
    → f1 ≤ f2 → IsCutShort (sinking before now f1 f2) (line_text plan n e ++ codes "\n") → IsCutShort (sinking first now f0 f2) (item_lines plan w.taken)
line_cut plan first before now f0 f1 f2 count n e v w p is high cut =
    let same = p.quiet in
    cut_behind first before now f0 f1 f2 (item_lines plan v.taken) (line_text plan n e ++ codes "\n") [] (item_lines plan w.taken) p.gained (omega arith) high cut
    (ap (λ (u : Account). item_lines plan u.taken) is ∙ item_lines_more plan v.taken (Numbered n e) ∙ sym (append-nil (item_lines plan v.taken ++ (line_text plan n e ++ codes "\n"))))

pub end_printed : (plan : Plan) (first now : Option (List ℕ)) (f0 f1 count : ℕ) (v w : Account) → IsPrinting plan first now f0 f1 count v → w ≡ taking v End → IsPrinting plan first now f0 f1 count w
end_printed plan first now f0 f1 count v w p is = record {
  takes = ap (λ (u : Account). u.takes) is ∙ p.takes;
  lines = let more = ap (λ (u : Account). lines_in u.taken) is ∙ lines_in_more v.taken End in let was = p.lines in omega arith;
  gained = subst (λ (l : List ℕ). Gains first now l) (sym (ap (λ (u : Account). item_lines plan u.taken) is ∙ item_lines_more plan v.taken End ∙ append-nil (item_lines plan v.taken))) p.gained;
  quiet = p.quiet;
}
