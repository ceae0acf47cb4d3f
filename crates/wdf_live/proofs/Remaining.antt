-- The lines of the events after so many, written one after the other.
use Rattle.std.proofs.Common.{◌≡◌, ℕ, zero, suc, ◌+◌, ◌≤◌, List, [], ◌∷◌, ◌++◌, length, drop, Option, Some, slice_get, refl, ap, sym, ◌∙◌, subst, arith, codes, append_assoc}
use Rattle.std.proofs.lemmas.List.{append-nil}
use Rattle.wdf_base.specs.declared.plan.Plan.{Plan}
use Rattle.wdf_base.specs.declared.event.Event.{Event}
use Rattle.wdf_io.specs.Outside.{Gains}
use Rattle.wdf_lines.specs.Lines.{line_text, lines_from}
use Rattle.wdf_output.proofs.Writing.{cut_behind, gains_more, gains_nothing}
use Rattle.wdf_output.specs.Said.{IsCutShort, sinking}

-- the lines from the k-th event on are its line and those after it
from_next : (plan : Plan) (n : ℕ) (run : List Event) (k : ℕ) (e : Event) → slice_get run k ≡ Some e
    → lines_from plan n (drop k run) ≡ (line_text plan n e ++ codes "\n") ++ lines_from plan (n + 1) (drop (k + 1) run)
from_next plan n [] k e found = absurd (let z : ⊥ = cc in z)
from_next plan n (x ∷ xs) zero e found = let same : x ≡ e = cc in rw same refl
from_next plan n (x ∷ xs) (suc k) e found = let next : suc k + 1 ≡ suc (k + 1) = omega arith in rw next (from_next plan n xs k e found)

none_after : (run : List Event) (k : ℕ) → length run ≤ k → drop k run ≡ []
none_after [] zero all = refl
none_after [] (suc k) all = refl
none_after (x ∷ xs) zero all = absurd (omega arith)
none_after (x ∷ xs) (suc k) all = none_after xs k (omega arith)

-- what was written is the lines from `lines` on, but for those from k on
pub record IsWriting (plan : Plan) (run : List Event) (lines k : ℕ) (first now : Option (List ℕ)) : Type 0 where
  pub out : List ℕ
  pub gained : Gains first now out
  pub left : out ++ lines_from plan (k + 1) (drop k run) ≡ lines_from plan (lines + 1) (drop lines run)

pub none_written : (plan : Plan) (run : List Event) (lines : ℕ) (first : Option (List ℕ)) → IsWriting plan run lines lines first first
none_written plan run lines first = record { out = []; gained = gains_nothing first; left = refl }

-- the text is what was written, the next line, and the rest
parted : (plan : Plan) (run : List Event) (lines k : ℕ) (first now : Option (List ℕ)) (e : Event) → slice_get run k ≡ Some e → (w : IsWriting plan run lines k first now)
    → (w.out ++ (line_text plan (k + 1) e ++ codes "\n")) ++ lines_from plan (k + 1 + 1) (drop (k + 1) run) ≡ lines_from plan (lines + 1) (drop lines run)
parted plan run lines k first now e found w =
    append_assoc w.out (line_text plan (k + 1) e ++ codes "\n") (lines_from plan (k + 1 + 1) (drop (k + 1) run))
    ∙ ap (λ (l : List ℕ). w.out ++ l) (sym (from_next plan (k + 1) run k e found)) ∙ w.left

pub one_written : (plan : Plan) (run : List Event) (lines k : ℕ) (first before now : Option (List ℕ)) (e : Event) → slice_get run k ≡ Some e
    → Gains before now (line_text plan (k + 1) e ++ codes "\n") → IsWriting plan run lines k first before → IsWriting plan run lines (k + 1) first now
one_written plan run lines k first before now e found gains w = record {
  out = w.out ++ (line_text plan (k + 1) e ++ codes "\n");
  gained = gains_more first before now w.out (line_text plan (k + 1) e ++ codes "\n") w.gained gains;
  left = parted plan run lines k first before e found w;
}

-- a line that was cut short leaves a front
pub one_cut : (plan : Plan) (run : List Event) (lines k : ℕ) (first before now : Option (List ℕ)) (f0 f1 f2 : ℕ) (e : Event) → slice_get run k ≡ Some e → f1 ≡ f0 → f1 ≤ f2
    → IsCutShort (sinking before now f1 f2) (line_text plan (k + 1) e ++ codes "\n") → IsWriting plan run lines k first before
    → IsCutShort (sinking first now f0 f2) (lines_from plan (lines + 1) (drop lines run))
one_cut plan run lines k first before now f0 f1 f2 e found same high cut w =
    cut_behind first before now f0 f1 f2 w.out (line_text plan (k + 1) e ++ codes "\n") (lines_from plan (k + 1 + 1) (drop (k + 1) run)) (lines_from plan (lines + 1) (drop lines run))
    w.gained (omega arith) high cut (sym (parted plan run lines k first before e found w))

-- after the last event all is written
pub all_written : (plan : Plan) (run : List Event) (lines k : ℕ) (first now : Option (List ℕ)) → length run ≤ k → IsWriting plan run lines k first now
    → Gains first now (lines_from plan (lines + 1) (drop lines run))
all_written plan run lines k first now all w =
    let none : w.out ++ lines_from plan (k + 1) (drop k run) ≡ w.out = ap (λ (l : List Event). w.out ++ lines_from plan (k + 1) l) (none_after run k all) ∙ append-nil w.out in
    subst (λ (l : List ℕ). Gains first now l) (sym none ∙ w.left) w.gained
