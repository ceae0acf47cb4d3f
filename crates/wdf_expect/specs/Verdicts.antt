-- What a run has to do with what is expected of it. (own)
use Rattle.std.specs.Prelude.{ℕ, ◌==◌, ◌&&◌, ◌||◌, Bool, true, false, not, List, [], ◌∷◌, ◌++◌, bytes_eq, codes, count_by, decimal, nat_lt, Option, Some, None}
use Rattle.std.specs.List.{find, list_any}
use Rattle.wdf_base.specs.declared.plan.Plan.{Plan}
use Rattle.wdf_base.specs.declared.event.Event.{Event}
use Rattle.wdf_base.specs.declared.event.Fault.{Fault}
use Rattle.wdf_base.specs.declared.event.Ending.{Ending}
use Rattle.wdf_base.specs.declared.event.Ending.TheVariants as ending
use Rattle.wdf_base.specs.Words.{fault_word}
use Rattle.wdf_expect.specs.declared.rules.Wanted.{Wanted}
use Rattle.wdf_expect.specs.declared.rules.Wanted.TheVariants as wanted
use Rattle.wdf_expect.specs.declared.rules.Rule.{Rule}
use Rattle.wdf_expect.specs.declared.rules.Rule.TheVariants as rule
use Rattle.wdf_expect.specs.declared.rules.Expectation.{Expectation}
use Rattle.wdf_expect.specs.Patterns.{matches}

-- ---- endings

abbrev pub is_fault : Fault → Fault → Bool
is_fault f g = bytes_eq (fault_word f) (fault_word g)

-- the ending is the one that is wanted; a fault is in this line
abbrev pub is_met : Wanted → Ending → ℕ → Bool
is_met wanted.Finished ending.Finished line = true
is_met wanted.Limit ending.Limit line = true
is_met wanted.Stuck ending.Stuck line = true
is_met (wanted.Fault f) (ending.Fault g) line = is_fault f g
is_met (wanted.FaultAt f at) (ending.Fault g) line = is_fault f g && at == line
is_met _ _ line = false

abbrev pub is_met_by : Ending → ℕ → Rule → Bool
is_met_by end line (rule.Expect w) = is_met w end line
is_met_by end line _ = false

-- A run ends as expected where it ends as one of the rules `expect` says.
unfoldable pub is_expected : List Expectation → Ending → ℕ → Bool
is_expected es end line = list_any (λ e. is_met_by end line e.rule) es

-- A run has come to its end where it finished or is stuck, or ended as expected: then nothing is still to come. A fault or the
-- limit cuts a run short.
abbrev pub is_whole : Ending → Bool → Bool
is_whole ending.Finished expected = true
is_whole ending.Stuck expected = true
is_whole _ expected = expected

-- ---- rules

-- each event that the first pattern matches has one after it that the second matches
abbrev pub is_followed : Plan → List (List ℕ) → List (List ℕ) → List Event → Bool
is_followed plan first next [] = true
is_followed plan first next (e ∷ run) = (not (matches plan first e) || list_any (matches plan next) run) && is_followed plan first next run

-- more than one; or none in a run that has come to its end
abbrev pub is_not_once : Bool → ℕ → Bool
is_not_once whole n = nat_lt 1 n || (whole && n == 0)

-- A run breaks a rule, a row for each form. What is to come isn't asked of a run that was cut short.
abbrev pub is_broken : Plan → List Event → Bool → Bool → Rule → Bool
is_broken plan run expected whole (rule.Expect w) = not expected
is_broken plan run expected whole (rule.Never p) = list_any (matches plan p) run
is_broken plan run expected whole (rule.Once p) = is_not_once whole (count_by (matches plan p) run)
is_broken plan run expected whole (rule.After first next) = whole && not (is_followed plan first next run)

-- the first of the expectations that a run breaks, in the order of the text
unfoldable pub first_broken : Plan → List Event → Bool → Bool → List Expectation → Option Expectation
first_broken plan run expected whole es = find (λ e. is_broken plan run expected whole e.rule) es

-- ---- kinds

abbrev pub rule_word : Rule → List ℕ
rule_word (rule.Expect w) = codes "expect"
rule_word (rule.Never p) = codes "never"
rule_word (rule.Once p) = codes "once"
rule_word (rule.After first next) = codes "after"

-- of an ending that isn't expected the kind is shown too
abbrev pub ending_shown : Rule → List ℕ → List ℕ
ending_shown (rule.Expect w) kind = codes ", " ++ kind
ending_shown _ kind = []

-- the kind of a run that breaks an expectation and ends in this kind
abbrev pub broken_text : Expectation → List ℕ → List ℕ
broken_text e kind = codes "broken: " ++ rule_word e.rule ++ codes " at line " ++ decimal e.line ++ ending_shown e.rule kind

abbrev pub verdict_text : Bool → Option Expectation → List ℕ → List ℕ
verdict_text expected (Some e) kind = broken_text e kind
verdict_text true None kind = codes "as expected: " ++ kind
verdict_text false None kind = kind

-- The kind of a run with an ending of this kind, by what is expected of it: the first expectation that it breaks; or that it
-- ended as expected; or, where no ending is, the kind of its ending.
abbrev pub judged_text : List Expectation → Plan → List Event → Ending → ℕ → List ℕ → List ℕ
judged_text es plan run end line kind =
    verdict_text (is_expected es end line) (first_broken plan run (is_expected es end line) (is_whole end (is_expected es end line)) es) kind
