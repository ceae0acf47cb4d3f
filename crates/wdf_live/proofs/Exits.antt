-- The text that the printer wrote, and the rest of it.
use Rattle.std.proofs.Common.{◌≡◌, ◌≢◌, ℕ, zero, suc, ◌+◌, ◌≤◌, inl, inr, Bool, true, false, List, [], ◌∷◌, ◌++◌, length, take, drop, Option, refl, ap, sym, ◌∙◌, subst, arith, codes, append_assoc, length-append, le_of_lt}
use Rattle.std.proofs.lemmas.List.{append-nil, take-append-le}
use mathlib.Core.List.{IsPrefix}
use Rattle.wdf_base.specs.Meaning.{Meaning}
use Rattle.wdf_base.specs.declared.plan.Plan.{Plan}
use Rattle.wdf_base.specs.declared.event.Event.{Event}
use Rattle.wdf_base.specs.declared.event.Ending.TheVariants as ending
use Rattle.wdf_io.specs.Outside.{Gains}
use Rattle.wdf_lines.specs.Lines.{line_text, lines_from}
use Rattle.wdf_live.proofs.Lines.{front}
use Rattle.wdf_live.specs.Printed.{HasPrinted, IsTold}
use Rattle.wdf_live.specs.Slot.{numbered, sent_of}
use Rattle.wdf_live.specs.Told.{item_lines, lines_in}
use Rattle.wdf_live.specs.Watched.{HasWatched, text_after}
use Rattle.wdf_live.specs.declared.printer.Printed.{Printed}
use Rattle.wdf_pipe.specs.Pipe.{account}
use Rattle.wdf_pipe.specs.declared.pipe.Account.{Account}
use Rattle.wdf_pipe.specs.declared.item.Item.{Item}
use Rattle.wdf_pipe.specs.declared.item.Item.TheVariants.{End}
use Rattle.wdf_model.specs.rules.Ready.{IsRunOf, ending_of}
use Rattle.wdf_output.specs.Endings.{ending_lines, status_of}
use Rattle.wdf_output.specs.Said.{Says, Sinking, IsCutShort, sinking}
use Rattle.wdf_output.proofs.Writing.{cut_behind, gains_more}
use Rattle.wdf_run_text.specs.Texts.{text_of}

-- the lines of the first events, and those of the others
pub lines_parted : (plan : Plan) (n k : ℕ) (run : List Event) → lines_from plan n run ≡ lines_from plan n (take k run) ++ lines_from plan (n + k) (drop k run)
lines_parted plan n zero run = let same : n ≡ n + 0 = omega arith in ap (λ (m : ℕ). lines_from plan m run) same
lines_parted plan n (suc k) [] = refl
lines_parted plan n (suc k) (e ∷ es) =
    let same : n + 1 + k ≡ n + suc k = omega arith in
    ap (λ (l : List ℕ). (line_text plan n e ++ codes "\n") ++ l)
    (lines_parted plan (n + 1) k es ∙ ap (λ (m : ℕ). lines_from plan (n + 1) (take k es) ++ lines_from plan m (drop k es)) same)
    ∙ sym (append_assoc (line_text plan n e ++ codes "\n") (lines_from plan (n + 1) (take k es)) (lines_from plan (n + suc k) (drop k es)))

-- the text of a run is the lines of its first events and the rest
pub text_parted : {A : Type 0} (plan : Plan) (m : Meaning A) (run : List Event) (k : ℕ) → text_of plan m run ≡ lines_from plan 1 (take k run) ++ text_after plan m run k
text_parted plan m run k =
    let same : 1 + k ≡ k + 1 = omega arith in
    ap (λ (l : List ℕ). l ++ ending_lines plan m run) (lines_parted plan 1 k run ∙ ap (λ (n : ℕ). lines_from plan 1 (take k run) ++ lines_from plan n (drop k run)) same)
    ∙ append_assoc (lines_from plan 1 (take k run)) (lines_from plan (k + 1) (drop k run)) (ending_lines plan m run)

-- a text whose front was written: what is said of the rest is said of the whole
pub says_behind : (a b c : Option (List ℕ)) (first before after : ℕ) (begun rest text : List ℕ) (status answer : ℕ)
    → Gains a b begun → before ≡ first → before ≤ after → text ≡ begun ++ rest
    → Says (sinking b c before after) rest status answer → Says (sinking a c first after) text status answer
says_behind a b c first before after begun rest text status answer gained same high is (inl (ok, more, quiet)) =
    inl (ok, subst (λ t. Gains a c t) (sym is) (gains_more a b c begun rest gained more), quiet ∙ same)
says_behind a b c first before after begun rest text status answer gained same high is (inr (failed, cut)) =
    inr (failed, cut_behind a b c first before after begun rest [] text gained (omega arith) high cut (is ∙ sym (append-nil (begun ++ rest))))

-- a text of which a front was cut short was cut short
pub says_cut : (a c : Option (List ℕ)) (first after : ℕ) (front rest text : List ℕ) (status : ℕ)
    → text ≡ front ++ rest → IsCutShort (sinking a c first after) front → Says (sinking a c first after) text status 13
says_cut a c first after front rest text status is cut =
    let same : take cut.size text ≡ take cut.size front = ap (λ (l : List ℕ). take cut.size l) is ∙ take-append-le cut.size front rest (le_of_lt cut.within) in
    inr (
      refl,
      record {
        rose = cut.rose;
        size = cut.size;
        within = let n = ap length is in let both = length-append front rest in let below = cut.within in omega arith;
        front = subst (λ (t : List ℕ). Gains a c t) (sym same) cut.front;
      },
    )

-- what was printed of a run was printed of the run that goes on from it
pub printed_longer : (plan : Plan) (run longer : List Event) (s : Sinking) (p : Printed) → IsPrefix run longer → HasPrinted plan run s p → HasPrinted plan longer s p
printed_longer plan run longer s p (rest, is) (within, told) =
    let n = ap length is in
    let both = length-append run rest in
    let same : take p.lines longer ≡ take p.lines run = ap (λ (l : List Event). take p.lines l) (sym is) ∙ take-append-le p.lines run rest within in
    (omega arith, subst (λ (l : List Event). IsTold p.failed s (lines_from plan 1 l)) (sym same) told)

-- what the printer took of a journal and its end mark was printed of the journal
pub printed_front : (plan : Plan) (run : List Event) (taken rest : List Item) (s : Sinking) (p : Printed) → numbered 1 run ++ End ∷ [] ≡ taken ++ rest → p.lines ≡ lines_in taken → IsTold p.failed s (item_lines plan taken)
    → HasPrinted plan run s p
printed_front plan run taken rest s p sent lines told =
    let f = front plan 1 run taken rest sent in
    let count = f.count in
    (omega arith, subst (λ (l : List ℕ). IsTold p.failed s l) (f.lines ∙ ap (λ (k : ℕ). lines_from plan 1 (take k run)) (sym lines)) told)

-- what was taken is a front of the journal with the end mark, whether or not that was sent
with_end : (run : List Event) (ended : Bool) (taken rest : List Item) → sent_of run ended ≡ taken ++ rest → (more : List Item) × (numbered 1 run ++ End ∷ [] ≡ taken ++ more)
with_end run true taken rest sent = (rest, sent)
with_end run false taken rest sent = (rest ++ End ∷ [], ap (λ (l : List Item). l ++ End ∷ []) sent ∙ append_assoc taken rest (End ∷ []))

-- what the two ends of the pipe know together: what was taken of all that was sent is printed
pub both_ends : (plan : Plan) (run : List Event) (ended : Bool) (sender printer : Account) (rest : List Item) (s : Sinking) (p : Printed)
    → sender ≡ account true false (sent_of run ended) [] → sender.sent ≡ printer.taken ++ rest → p.lines ≡ lines_in printer.taken → IsTold p.failed s (item_lines plan printer.taken)
    → HasPrinted plan run s p
both_ends plan run ended sender printer rest s p is parted lines told =
    let whole = with_end run ended printer.taken rest (sym (ap (λ (v : Account). v.sent) is) ∙ parted) in
    printed_front plan run printer.taken whole.0 s p whole.1 lines told

-- what was printed of what the workers left was printed of the finished run; the printer's plan is the core's
pub printed_whole : (plan other : Plan) (run longer : List Event) (s : Sinking) (p : Printed) → other ≡ plan → IsPrefix run longer → HasPrinted other run s p → HasPrinted plan longer s p
printed_whole plan other run longer s p same goes printed = subst (λ (q : Plan). HasPrinted q longer s p) same (printed_longer other run longer s p goes printed)

-- a run that has ended, of a plan that is the same
pub same_run : {A : Type 0} (plan other : Plan) (m : Meaning A) (run : List Event) → other ≡ plan → IsRunOf other m run → IsRunOf plan m run
same_run plan other m run same runs = subst (λ (q : Plan). IsRunOf q m run) same runs

pub same_ended : {A : Type 0} (plan other : Plan) (m : Meaning A) (run : List Event) → other ≡ plan → ending_of other m run ≢ ending.Running → ending_of plan m run ≢ ending.Running
same_ended plan other m run same ended = subst (λ (q : Plan). ending_of q m run ≢ ending.Running) same ended

-- what the printer's end says where a write failed, and where none did
told_cut : (failed : Bool) (s : Sinking) (text : List ℕ) → failed ≡ true → IsTold failed s text → IsCutShort s text
told_cut true s text is told = told
told_cut false s text is told = absurd (let z : ⊥ = cc in z)

told_whole : (failed : Bool) (s : Sinking) (text : List ℕ) → failed ≡ false → IsTold failed s text → Gains s.before s.after text × (s.faults_after ≡ s.faults_before)
told_whole false s text is told = told
told_whole true s text is told = absurd (let z : ⊥ = cc in z)

-- a printer that failed has cut the text of the run short
pub watched_cut : {A : Type 0} (plan : Plan) (m : Meaning A) (run : List Event) (a b : Option (List ℕ)) (first after : ℕ) (p : Printed) → IsRunOf plan m run → ending_of plan m run ≢ ending.Running
    → p.failed ≡ true → HasPrinted plan run (sinking a b first after) p → HasWatched plan m (sinking a b first after) 13
watched_cut plan m run a b first after p runs ended failed printed = record {
  run = run;
  runs = runs;
  ended = ended;
  said = says_cut a b first after (lines_from plan 1 (take p.lines run)) (text_after plan m run p.lines) (text_of plan m run) (status_of (ending_of plan m run)) (text_parted plan m run p.lines)
      (told_cut p.failed (sinking a b first after) (lines_from plan 1 (take p.lines run)) failed printed.1);
}

-- where it didn't fail, what is said of the rest is said of the whole text
pub watched_whole : {A : Type 0} (plan other : Plan) (m : Meaning A) (run : List Event) (a b c : Option (List ℕ)) (first before after answer : ℕ) (p : Printed) → IsRunOf plan m run
    → ending_of plan m run ≢ ending.Running → p.failed ≡ false → HasPrinted plan run (sinking a b first before) p → other ≡ plan → before ≤ after
    → Says (sinking b c before after) (text_after other m run p.lines) (status_of (ending_of other m run)) answer → HasWatched plan m (sinking a c first after) answer
watched_whole plan other m run a b c first before after answer p runs ended failed printed same high said =
    let told = told_whole p.failed (sinking a b first before) (lines_from plan 1 (take p.lines run)) failed printed.1 in
    record {
      run = run;
      runs = runs;
      ended = ended;
      said = says_behind a b c first before after (lines_from plan 1 (take p.lines run)) (text_after plan m run p.lines) (text_of plan m run) (status_of (ending_of plan m run)) answer told.0 told.1 high
          (text_parted plan m run p.lines) (subst (λ (q : Plan). Says (sinking b c before after) (text_after q m run p.lines) (status_of (ending_of q m run)) answer) same said);
    }

-- a printer that didn't fail left the count of faults as it was
pub printed_quiet : (plan : Plan) (run : List Event) (a b : Option (List ℕ)) (first after : ℕ) (p : Printed) → p.failed ≡ false → HasPrinted plan run (sinking a b first after) p → after ≡ first
printed_quiet plan run a b first after p failed printed = (told_whole p.failed (sinking a b first after) (lines_from plan 1 (take p.lines run)) failed printed.1).1
