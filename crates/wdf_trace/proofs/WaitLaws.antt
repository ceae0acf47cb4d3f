-- A line of an ending or of a wait list is read back from its words.
use Rattle.std.proofs.Common.{◌≡◌, ◌≢◌, ℕ, suc, ◌+◌, ◌<◌, ◌^◌, Bool, true, false, List, [], ◌∷◌, ◌++◌, length, Option, Some, None, unwrap_or, refl, sym, ap, ◌∙◌, subst, arith, codes, decimal, add-zero, zero-add}
use Rattle.std.specs.Char.{is_ascii_digit}
use Rattle.std.specs.List.{list_all}
use Rattle.std.specs.Str.{bytes_eq}
use Rattle.std.proofs.lemmas.Bool.{both_ways, false_from_ne_true, cond-true, cond-false}
use Rattle.std.proofs.lemmas.Slice.Eq.{bytes_eq-Decides}
use Rattle.wdf_base.specs.declared.plan.Plan.{Plan}
use Rattle.wdf_base.specs.declared.ids.Handle.{Handle}
use Rattle.wdf_base.specs.declared.ids.FrameId.{FrameId}
use Rattle.wdf_base.specs.declared.call.Callback.{Callback}
use Rattle.wdf_base.specs.declared.event.Ending.{Ending}
use Rattle.wdf_base.specs.declared.event.Ending.TheVariants as ending
use Rattle.wdf_base.specs.declared.event.Stage.{Stage}
use Rattle.wdf_base.specs.declared.event.Stage.TheVariants as stage
use Rattle.wdf_base.specs.declared.event.Step.{Step}
use Rattle.wdf_base.specs.declared.event.Step.TheVariants as step
use Rattle.wdf_base.specs.declared.wait.OpenThing.{OpenThing}
use Rattle.wdf_base.specs.declared.wait.OpenThing.TheVariants as thing
use Rattle.wdf_base.specs.declared.wait.Cause.{Cause}
use Rattle.wdf_base.specs.declared.wait.Cause.TheVariants as cause
use Rattle.wdf_base.specs.declared.wait.WaitLine.{WaitLine}
use Rattle.wdf_base.specs.Words.{callback_word, stage_word}
use Rattle.wdf_base.proofs.WordLaws.{stage-back}
use Rattle.wdf_text.proofs.ReadBack.{decimal_digits}
use Rattle.wdf_text.proofs.Numbers.{small_number_below}
use Rattle.wdf_lines.specs.Lines.{object_text}
use Rattle.wdf_lines.specs.Endings.{joined, ending_word, ending_text, step_word, thing_words, cause_words, wait_text}
use Rattle.wdf_trace.specs.Events.{IsHandleOf}
use Rattle.wdf_trace.specs.Reading.{word, words, number_of, short_of, has_dot, object_of}
use Rattle.wdf_trace.specs.Told.{stage_in}
use Rattle.wdf_trace.specs.CauseWords.{cause_word_of}
use Rattle.wdf_trace.specs.Waits.{IsEndingText, ending_of, has_cause, IsThingOf, IsCauseOf, IsWaitOf, frame_of, cause_with, cause_in, step_with, step_of, object_line, wait_in}
use Rattle.wdf_trace.proofs.Blanks.{Lacks, AllLack, words_spaced}
use Rattle.wdf_trace.proofs.Decimals.{number_of-decimal, short_of-decimal}
use Rattle.wdf_trace.proofs.EventLaws.{short_lacks, digits_lack, callback_named-word, callback_in-word, callback_named-stage}
use Rattle.wdf_trace.proofs.NameLaws.{HasNames}
use Rattle.wdf_trace.proofs.ValueLaws.{ap2, ap3, ap4, object_of-object_text, has_dot-object_text, object_lacks}
use Rattle.wdf_trace.proofs.WordLaws.{callback_word_lacks, stage_word_lacks, callback_word_other, stage_word_other}

-- the words of a line whose first word has no blank before it
words_joined : (w : List ℕ) (ws : List (List ℕ)) → Lacks 32 w → AllLack 32 ws → words (joined (w ∷ ws)) ≡ w ∷ ws
words_joined w ws h hs = words_spaced w ws h hs

-- ---- endings

ending_lacks : (e : Ending) → Lacks 32 (ending_word e)
ending_lacks ending.Running = record { each = refl }
ending_lacks _ = record { each = refl }

ending_words : (n : ℕ) (e : Ending) → n < 2 ^ 64 → words (ending_text n e) ≡ ending_word e ∷ decimal n ∷ []
ending_words n e small = words_joined (ending_word e) (decimal n ∷ []) (ending_lacks e) (digits_lack n small, tt)

-- the ending of a word has that word; a fault is any
ending_word_back : (e : Ending) → ending_word (ending_of (ending_word e)) ≡ ending_word e
ending_word_back ending.Running = refl
ending_word_back _ = refl

ending_over : (e : Ending) → e ≢ ending.Running → ending_of (ending_word e) ≢ ending.Running
ending_over ending.Running h = absurd (h refl)
ending_over _ h = λ e. cc

-- what is read loosely from the line of an ending has that line
pub ending_read : (text : List ℕ) (k : ℕ) (e : Ending) → k ≡ number_of (word 1 (words text)) → e ≡ ending_of (word 0 (words text)) → IsEndingText text → (e ≢ ending.Running) × (ending_text k e ≡ text)
ending_read text k e is_number is_ending h =
    let (n, d, small, over, same) = h in
    let parts = ap words (sym same) ∙ ending_words n d small in
    let ks : k ≡ n = is_number ∙ ap (λ ws. number_of (word 1 ws)) parts ∙ number_of-decimal n small in
    let es : e ≡ ending_of (ending_word d) = is_ending ∙ ap (λ ws. ending_of (word 0 ws)) parts in (
      λ z. ending_over d over (sym es ∙ z),
      ap2 (λ m w. joined (w ∷ decimal m ∷ [])) ks (ap ending_word es ∙ ending_word_back d) ∙ same,
    )

-- a number that is read fits
pub number_of_small : (w : List ℕ) → number_of w < 2 ^ 64
number_of_small w = small_number_below w

-- ---- no word of a wait line has a blank

step_lacks : (s : Step) → Lacks 32 (step_word s)
step_lacks (step.Run c i) = callback_word_lacks c
step_lacks (step.Pass s i) = stage_word_lacks s

cause_lacks : (plan : Plan) → HasNames plan → (c : Option Cause) → IsCauseOf plan c → AllLack 32 (cause_words plan c)
cause_lacks plan h None v = tt
cause_lacks plan h (Some (cause.ByFrame f)) v = (record { each = refl }, (short_lacks f.0 v, tt))
cause_lacks plan h (Some (cause.ByLock l f)) v = (record { each = refl }, (object_lacks plan h l v.0, (record { each = refl }, (record { each = refl }, (short_lacks f.0 v.1, tt)))))
cause_lacks plan h (Some (cause.ByRequest r)) v = (record { each = refl }, (object_lacks plan h r v, tt))
cause_lacks plan h (Some (cause.ByWork w)) v = (record { each = refl }, (object_lacks plan h w v, tt))
cause_lacks plan h (Some cause.Stopped) v = (record { each = refl }, tt)
cause_lacks plan h (Some cause.Unpowered) v = (record { each = refl }, tt)
cause_lacks plan h (Some cause.Manual) v = (record { each = refl }, tt)
cause_lacks plan h (Some (cause.Behind r)) v = (record { each = refl }, (object_lacks plan h r v, tt))
cause_lacks plan h (Some cause.Full) v = (record { each = refl }, tt)
cause_lacks plan h (Some cause.ScopeHeld) v = (record { each = refl }, tt)
cause_lacks plan h (Some cause.NoCpu) v = (record { each = refl }, tt)
cause_lacks plan h (Some (cause.References n)) v = (record { each = refl }, (short_lacks n v, tt))
cause_lacks plan h (Some (cause.ByChild c)) v = (record { each = refl }, (object_lacks plan h c v, tt))
cause_lacks plan h (Some (cause.AtTarget t)) v = (record { each = refl }, (object_lacks plan h t v, tt))

-- ---- causes

-- a word after some others
word_past : (pre ws : List (List ℕ)) (i : ℕ) → word (length pre + i) (pre ++ ws) ≡ word i ws
word_past [] ws i = ap (λ k. word k ws) (zero-add i)
word_past (p ∷ pre) ws i =
    let e : length (p ∷ pre) + i ≡ suc (length pre + i) = omega arith in
    ap (λ k. word k (p ∷ (pre ++ ws))) e ∙ word_past pre ws i

word_there : (pre ws : List (List ℕ)) → word (length pre) (pre ++ ws) ≡ word 0 ws
word_there pre ws = ap (λ k. word k (pre ++ ws)) (sym (add-zero (length pre))) ∙ word_past pre ws 0

-- the first word of a cause
first_word : (plan : Plan) (pre ws : List (List ℕ)) → cause_in plan (length pre) (pre ++ ws) ≡ cause_with plan (length pre) (pre ++ ws) (cause_word_of (word 0 ws))
first_word plan pre ws = ap (λ w. cause_with plan (length pre) (pre ++ ws) (cause_word_of w)) (word_there pre ws)

frame_back : (f : FrameId) → f.0 < 2 ^ 32 → frame_of (decimal f.0) ≡ f
frame_back f v = let make : ℕ → FrameId = λ n. record { 0 = n } in ap make (short_of-decimal f.0 v)

object_back : (plan : Plan) → HasNames plan → (pre ws : List (List ℕ)) (o : Handle) → IsHandleOf plan o → word 1 ws ≡ object_text plan o → object_of plan (word (length pre + 1) (pre ++ ws)) ≡ o
object_back plan h pre ws o v e = ap (object_of plan) (word_past pre ws 1 ∙ e) ∙ object_of-object_text plan h o v

pub cause_back : (plan : Plan) → HasNames plan → (pre : List (List ℕ)) (c : Option Cause) → IsCauseOf plan c → cause_in plan (length pre) (pre ++ cause_words plan c) ≡ c
cause_back plan h pre None v = first_word plan pre []
cause_back plan h pre (Some (cause.ByFrame f)) v =
    first_word plan pre (cause_words plan (Some (cause.ByFrame f)))
    ∙ ap (λ w. Some (cause.ByFrame (frame_of w))) (word_past pre (cause_words plan (Some (cause.ByFrame f))) 1) ∙ ap (λ x. Some (cause.ByFrame x)) (frame_back f v)
cause_back plan h pre (Some (cause.ByLock l f)) v =
    first_word plan pre (cause_words plan (Some (cause.ByLock l f)))
    ∙ ap2 (λ x y. Some (cause.ByLock x y)) (object_back plan h pre (cause_words plan (Some (cause.ByLock l f))) l v.0 refl) (ap frame_of (word_past pre (cause_words plan (Some (cause.ByLock l f))) 4) ∙ frame_back f v.1)
cause_back plan h pre (Some (cause.ByRequest r)) v =
    first_word plan pre (cause_words plan (Some (cause.ByRequest r))) ∙ ap (λ y. Some (cause.ByRequest y)) (object_back plan h pre (cause_words plan (Some (cause.ByRequest r))) r v refl)
cause_back plan h pre (Some (cause.ByWork w)) v =
    first_word plan pre (cause_words plan (Some (cause.ByWork w))) ∙ ap (λ y. Some (cause.ByWork y)) (object_back plan h pre (cause_words plan (Some (cause.ByWork w))) w v refl)
cause_back plan h pre (Some (cause.Behind b)) v =
    first_word plan pre (cause_words plan (Some (cause.Behind b))) ∙ ap (λ y. Some (cause.Behind y)) (object_back plan h pre (cause_words plan (Some (cause.Behind b))) b v refl)
cause_back plan h pre (Some (cause.ByChild x)) v =
    first_word plan pre (cause_words plan (Some (cause.ByChild x))) ∙ ap (λ y. Some (cause.ByChild y)) (object_back plan h pre (cause_words plan (Some (cause.ByChild x))) x v refl)
cause_back plan h pre (Some (cause.AtTarget t)) v =
    first_word plan pre (cause_words plan (Some (cause.AtTarget t))) ∙ ap (λ y. Some (cause.AtTarget y)) (object_back plan h pre (cause_words plan (Some (cause.AtTarget t))) t v refl)
cause_back plan h pre (Some cause.Stopped) v = first_word plan pre (cause_words plan (Some cause.Stopped))
cause_back plan h pre (Some cause.Unpowered) v = first_word plan pre (cause_words plan (Some cause.Unpowered))
cause_back plan h pre (Some cause.Manual) v = first_word plan pre (cause_words plan (Some cause.Manual))
cause_back plan h pre (Some cause.Full) v = first_word plan pre (cause_words plan (Some cause.Full))
cause_back plan h pre (Some cause.ScopeHeld) v = first_word plan pre (cause_words plan (Some cause.ScopeHeld))
cause_back plan h pre (Some cause.NoCpu) v = first_word plan pre (cause_words plan (Some cause.NoCpu))
cause_back plan h pre (Some (cause.References n)) v =
    first_word plan pre (cause_words plan (Some (cause.References n)))
    ∙ ap (λ w. Some (cause.References (short_of w))) (word_past pre (cause_words plan (Some (cause.References n))) 1) ∙ ap (λ x. Some (cause.References x)) (short_of-decimal n v)

-- ---- what a line begins with

-- a word with a dot is none without
no_word : (w v : List ℕ) → has_dot w ≡ true → has_dot v ≡ false → bytes_eq w v ≡ false
no_word w v dot none =
    false_from_ne_true _ (λ e. both_ways (has_dot v) none (ap has_dot (sym ((bytes_eq-Decides w v).0 e)) ∙ dot))

-- digits are no word with a letter
no_digits : (n : ℕ) (v : List ℕ) → n < 2 ^ 64 → list_all is_ascii_digit v ≡ false → bytes_eq (decimal n) v ≡ false
no_digits n v small letter =
    false_from_ne_true _ (λ e. both_ways (list_all is_ascii_digit v) letter (ap (list_all is_ascii_digit) (sym ((bytes_eq-Decides (decimal n) v).0 e)) ∙ decimal_digits n small))

-- a line that begins with an object
begins : (plan : Plan) (o : Handle) (ws : List (List ℕ)) → wait_in plan (object_text plan o ∷ ws) ≡ object_line plan (object_text plan o ∷ ws)
begins plan o ws =
    cond-false _ _ _ (no_word (object_text plan o) (codes "frame") (has_dot-object_text plan o) refl)
    ∙ cond-false _ _ _ (no_word (object_text plan o) (codes "pnp") (has_dot-object_text plan o) refl)

-- a word with a dot isn't `waits`
not_waits : (plan : Plan) (o : Handle) → bytes_eq (object_text plan o) (codes "waits") ≡ false
not_waits plan o = no_word (object_text plan o) (codes "waits") (has_dot-object_text plan o) refl

-- ---- the whole

-- a step without its interrupt, which no line shows
abbrev pub plain_step : Step → Step
plain_step (step.Run c i) = step.Run c None
plain_step (step.Pass s i) = step.Pass s None

stage_in-word : (s : Stage) → stage_in (stage_word s) ≡ s
stage_in-word s = ap (λ o. unwrap_or o stage.Working) (stage-back s)

-- the line that is read in place of one with the same text
abbrev pub plain_wait : OpenThing → Option Cause → WaitLine
plain_wait (thing.Sequence d s) c = record { thing = thing.Sequence d (plain_step s); cause = c }
plain_wait (thing.Leaving o) (Some (cause.AtTarget t)) = record { thing = thing.Sent o t; cause = None }
plain_wait x c = record { thing = x; cause = c }

step_back : (s : Step) → step_of (step_word s) ≡ plain_step s
step_back (step.Run c i) = ap (λ o. step_with o (stage_in (callback_word c))) (callback_named-word c)
step_back (step.Pass s i) = ap (λ o. step_with o (stage_in (stage_word s))) (callback_named-stage s) ∙ ap (λ x. step.Pass x None) (stage_in-word s)

step_other : (s : Step) → (bytes_eq (step_word s) (codes "owned") ≡ false) × (bytes_eq (step_word s) (codes "sent") ≡ false) × (bytes_eq (step_word s) (codes "returning") ≡ false)
step_other (step.Run c i) = callback_word_other c
step_other (step.Pass s i) = stage_word_other s

abbrev line_of : OpenThing → Option Cause → WaitLine
line_of x c = record { thing = x; cause = c }

waiting_back : (plan : Plan) → HasNames plan → (f : FrameId) (b : Callback) (o : Handle) (c : Option Cause) → IsThingOf plan (thing.Waiting f b o) → IsCauseOf plan c → wait_in plan (thing_words plan (thing.Waiting f b o) ++ cause_words plan c) ≡ line_of (thing.Waiting f b o) c
waiting_back plan h f b o c v w =
    ap4 (λ x y z t. line_of (thing.Waiting x y z) t) (frame_back f v.0) (callback_in-word b) (object_of-object_text plan h o v.1) (cause_back plan h (thing_words plan (thing.Waiting f b o)) c w)

queued_back : (plan : Plan) → HasNames plan → (r q : Handle) (c : Option Cause) → IsThingOf plan (thing.Queued r q) → IsCauseOf plan c → wait_in plan (thing_words plan (thing.Queued r q) ++ cause_words plan c) ≡ line_of (thing.Queued r q) c
queued_back plan h r q c v w =
    begins plan r (codes "queued" ∷ object_text plan q ∷ cause_words plan c) ∙ cond-false _ _ _ (not_waits plan q) ∙ cond-true _ _ _ (has_dot-object_text plan q)
    ∙ ap3 (λ x y z. line_of (thing.Queued x y) z) (object_of-object_text plan h r v.0) (object_of-object_text plan h q v.1) (cause_back plan h (thing_words plan (thing.Queued r q)) c w)

returning_back : (plan : Plan) → HasNames plan → (r q : Handle) (c : Option Cause) → IsThingOf plan (thing.Returning r q) → IsCauseOf plan c → wait_in plan (thing_words plan (thing.Returning r q) ++ cause_words plan c) ≡ line_of (thing.Returning r q) c
returning_back plan h r q c v w =
    begins plan r (codes "returning" ∷ object_text plan q ∷ cause_words plan c)
    ∙ ap3 (λ x y z. line_of (thing.Returning x y) z) (object_of-object_text plan h r v.0) (object_of-object_text plan h q v.1) (cause_back plan h (thing_words plan (thing.Returning r q)) c w)

sequence_back : (plan : Plan) → HasNames plan → (d : Handle) (s : Step) (c : Option Cause) → IsHandleOf plan d → IsCauseOf plan c → wait_in plan (thing_words plan (thing.Sequence d s) ++ cause_words plan c) ≡ line_of (thing.Sequence d (plain_step s)) c
sequence_back plan h d s c v w =
    begins plan d (step_word s ∷ codes "waits" ∷ cause_words plan c)
    ∙ cond-false _ _ _ (step_other s).0 ∙ cond-false _ _ _ (step_other s).1 ∙ cond-false _ _ _ (step_other s).2
    ∙ ap3 (λ x y z. line_of (thing.Sequence x y) z) (object_of-object_text plan h d v) (step_back s) (cause_back plan h (thing_words plan (thing.Sequence d s)) c w)

leaving_object : (plan : Plan) → HasNames plan → (o : Handle) (c : Option Cause) → IsHandleOf plan o → IsCauseOf plan c → line_of (thing.Leaving (object_of plan (object_text plan o))) (cause_in plan 1 (object_text plan o ∷ cause_words plan c)) ≡ line_of (thing.Leaving o) c
leaving_object plan h o c v w = ap2 (λ x y. line_of (thing.Leaving x) y) (object_of-object_text plan h o v) (cause_back plan h (object_text plan o ∷ []) c w)

deferred_object : (plan : Plan) → HasNames plan → (o : Handle) (c : Option Cause) → IsHandleOf plan o → IsCauseOf plan c → line_of (thing.Deferred (object_of plan (object_text plan o))) (cause_in plan 2 (object_text plan o ∷ codes "queued" ∷ cause_words plan c)) ≡ line_of (thing.Deferred o) c
deferred_object plan h o c v w = ap2 (λ x y. line_of (thing.Deferred x) y) (object_of-object_text plan h o v) (cause_back plan h (object_text plan o ∷ codes "queued" ∷ []) c w)

leaving_back : (plan : Plan) → HasNames plan → (o : Handle) (c : Option Cause) → has_cause (thing.Leaving o) c ≡ true → IsHandleOf plan o → IsCauseOf plan c → wait_in plan (object_text plan o ∷ cause_words plan c) ≡ plain_wait (thing.Leaving o) c
leaving_back plan h o None row v w = absurd (let z : ⊥ = cc in z)
leaving_back plan h o (Some (cause.ByFrame f)) row v w =
    begins plan o (cause_words plan (Some (cause.ByFrame f))) ∙ cond-false _ _ _ (no_digits f.0 (codes "waits") (omega arith) refl) ∙ leaving_object plan h o (Some (cause.ByFrame f)) v w
leaving_back plan h o (Some (cause.ByLock l g)) row v w = absurd (let z : ⊥ = cc in z)
leaving_back plan h o (Some (cause.ByRequest r)) row v w = absurd (let z : ⊥ = cc in z)
leaving_back plan h o (Some (cause.ByWork y)) row v w = absurd (let z : ⊥ = cc in z)
leaving_back plan h o (Some cause.Stopped) row v w = absurd (let z : ⊥ = cc in z)
leaving_back plan h o (Some cause.Unpowered) row v w = absurd (let z : ⊥ = cc in z)
leaving_back plan h o (Some cause.Manual) row v w = absurd (let z : ⊥ = cc in z)
leaving_back plan h o (Some (cause.Behind b)) row v w = absurd (let z : ⊥ = cc in z)
leaving_back plan h o (Some cause.Full) row v w = absurd (let z : ⊥ = cc in z)
leaving_back plan h o (Some cause.ScopeHeld) row v w = absurd (let z : ⊥ = cc in z)
leaving_back plan h o (Some cause.NoCpu) row v w = begins plan o (cause_words plan (Some cause.NoCpu)) ∙ leaving_object plan h o (Some cause.NoCpu) v w
leaving_back plan h o (Some (cause.References n)) row v w =
    begins plan o (cause_words plan (Some (cause.References n))) ∙ cond-false _ _ _ (no_digits n (codes "waits") (omega arith) refl) ∙ leaving_object plan h o (Some (cause.References n)) v w
leaving_back plan h o (Some (cause.ByChild x)) row v w =
    begins plan o (cause_words plan (Some (cause.ByChild x))) ∙ cond-false _ _ _ (not_waits plan x) ∙ leaving_object plan h o (Some (cause.ByChild x)) v w
leaving_back plan h o (Some (cause.AtTarget t)) row v w =
    begins plan o (cause_words plan (Some (cause.AtTarget t))) ∙ ap2 (λ x y. line_of (thing.Sent x y) None) (object_of-object_text plan h o v) (object_of-object_text plan h t w)

deferred_back : (plan : Plan) → HasNames plan → (o : Handle) (c : Option Cause) → has_cause (thing.Deferred o) c ≡ true → IsHandleOf plan o → IsCauseOf plan c → wait_in plan (object_text plan o ∷ codes "queued" ∷ cause_words plan c) ≡ line_of (thing.Deferred o) c
deferred_back plan h o None row v w = absurd (let z : ⊥ = cc in z)
deferred_back plan h o (Some (cause.ByFrame f)) row v w = begins plan o (codes "queued" ∷ cause_words plan (Some (cause.ByFrame f))) ∙ deferred_object plan h o (Some (cause.ByFrame f)) v w
deferred_back plan h o (Some (cause.ByLock l g)) row v w = absurd (let z : ⊥ = cc in z)
deferred_back plan h o (Some (cause.ByRequest r)) row v w = absurd (let z : ⊥ = cc in z)
deferred_back plan h o (Some (cause.ByWork y)) row v w = absurd (let z : ⊥ = cc in z)
deferred_back plan h o (Some cause.Stopped) row v w = absurd (let z : ⊥ = cc in z)
deferred_back plan h o (Some cause.Unpowered) row v w = absurd (let z : ⊥ = cc in z)
deferred_back plan h o (Some cause.Manual) row v w = absurd (let z : ⊥ = cc in z)
deferred_back plan h o (Some (cause.Behind b)) row v w = absurd (let z : ⊥ = cc in z)
deferred_back plan h o (Some cause.Full) row v w = absurd (let z : ⊥ = cc in z)
deferred_back plan h o (Some cause.ScopeHeld) row v w = begins plan o (codes "queued" ∷ cause_words plan (Some cause.ScopeHeld)) ∙ deferred_object plan h o (Some cause.ScopeHeld) v w
deferred_back plan h o (Some cause.NoCpu) row v w = begins plan o (codes "queued" ∷ cause_words plan (Some cause.NoCpu)) ∙ deferred_object plan h o (Some cause.NoCpu) v w
deferred_back plan h o (Some (cause.References n)) row v w = absurd (let z : ⊥ = cc in z)
deferred_back plan h o (Some (cause.ByChild x)) row v w = absurd (let z : ⊥ = cc in z)
deferred_back plan h o (Some (cause.AtTarget t)) row v w = absurd (let z : ⊥ = cc in z)

-- a line without a cause
abbrev pub has_none : Option Cause → Bool
has_none None = true
has_none (Some c) = false

alone : (x : OpenThing) (c : Option Cause) → has_none c ≡ true → line_of x None ≡ line_of x c
alone x None e = refl
alone x (Some c) e = absurd (let z : ⊥ = cc in z)

no_cause_owned : (r : Handle) (c : Cause) → has_cause (thing.Owned r) (Some c) ≡ true → ⊥
no_cause_owned r (cause.ByFrame f) row = cc
no_cause_owned r _ row = cc

no_cause_sent : (r t' : Handle) (c : Cause) → has_cause (thing.Sent r t') (Some c) ≡ true → ⊥
no_cause_sent r t' (cause.ByFrame f) row = cc
no_cause_sent r t' _ row = cc

no_cause_asking : (d : Handle) (c : Cause) → has_cause (thing.Asking d) (Some c) ≡ true → ⊥
no_cause_asking d (cause.ByFrame f) row = cc
no_cause_asking d _ row = cc

pub wait_back : (plan : Plan) → HasNames plan → (x : OpenThing) (c : Option Cause) → has_cause x c ≡ true → IsThingOf plan x → IsCauseOf plan c → wait_in plan (thing_words plan x ++ cause_words plan c) ≡ plain_wait x c
wait_back plan h (thing.Waiting f b o) c row v w = waiting_back plan h f b o c v w
wait_back plan h (thing.Owned r) None row v w =
    begins plan r (codes "owned" ∷ []) ∙ ap (λ y. line_of (thing.Owned y) None) (object_of-object_text plan h r v)
wait_back plan h (thing.Owned r) (Some c) row v w = absurd (no_cause_owned r c row)
wait_back plan h (thing.Sent r t) None row v w =
    begins plan r (codes "sent" ∷ object_text plan t ∷ []) ∙ ap2 (λ y z. line_of (thing.Sent y z) None) (object_of-object_text plan h r v.0) (object_of-object_text plan h t v.1)
wait_back plan h (thing.Sent r t) (Some c) row v w = absurd (no_cause_sent r t c row)
wait_back plan h (thing.Queued r q) c row v w = queued_back plan h r q c v w
wait_back plan h (thing.Returning r q) c row v w = returning_back plan h r q c v w
wait_back plan h (thing.Sequence d s) c row v w = sequence_back plan h d s c v w
wait_back plan h (thing.Leaving o) c row v w = leaving_back plan h o c row v w
wait_back plan h (thing.Deferred o) c row v w = deferred_back plan h o c row v w
wait_back plan h (thing.Asking d) None row v w = ap (λ y. line_of (thing.Asking y) None) (object_of-object_text plan h d v)
wait_back plan h (thing.Asking d) (Some c) row v w = absurd (no_cause_asking d c row)

-- the words of a line of a wait list
wait_words : (plan : Plan) → HasNames plan → (x : OpenThing) (c : Option Cause) → IsThingOf plan x → IsCauseOf plan c → words (joined (thing_words plan x ++ cause_words plan c)) ≡ thing_words plan x ++ cause_words plan c
wait_words plan h (thing.Waiting f b o) c v w =
    words_joined (codes "frame") (decimal f.0 ∷ callback_word b ∷ object_text plan o ∷ codes "waits" ∷ cause_words plan c) (record { each = refl }) (short_lacks f.0 v.0, (callback_word_lacks b, (object_lacks plan h o v.1, (record { each = refl }, cause_lacks plan h c w))))
wait_words plan h (thing.Owned r) c v w = words_joined (object_text plan r) (codes "owned" ∷ cause_words plan c) (object_lacks plan h r v) (record { each = refl }, cause_lacks plan h c w)
wait_words plan h (thing.Sent r t) c v w = words_joined (object_text plan r) (codes "sent" ∷ object_text plan t ∷ cause_words plan c) (object_lacks plan h r v.0) (record { each = refl }, (object_lacks plan h t v.1, cause_lacks plan h c w))
wait_words plan h (thing.Queued r q) c v w = words_joined (object_text plan r) (codes "queued" ∷ object_text plan q ∷ cause_words plan c) (object_lacks plan h r v.0) (record { each = refl }, (object_lacks plan h q v.1, cause_lacks plan h c w))
wait_words plan h (thing.Returning r q) c v w = words_joined (object_text plan r) (codes "returning" ∷ object_text plan q ∷ cause_words plan c) (object_lacks plan h r v.0) (record { each = refl }, (object_lacks plan h q v.1, cause_lacks plan h c w))
wait_words plan h (thing.Sequence d s) c v w = words_joined (object_text plan d) (step_word s ∷ codes "waits" ∷ cause_words plan c) (object_lacks plan h d v) (step_lacks s, (record { each = refl }, cause_lacks plan h c w))
wait_words plan h (thing.Leaving o) c v w = words_joined (object_text plan o) (cause_words plan c) (object_lacks plan h o v) (cause_lacks plan h c w)
wait_words plan h (thing.Deferred o) c v w = words_joined (object_text plan o) (codes "queued" ∷ cause_words plan c) (object_lacks plan h o v) (record { each = refl }, cause_lacks plan h c w)
wait_words plan h (thing.Asking d) c v w = words_joined (codes "pnp") (codes "waits" ∷ object_text plan d ∷ cause_words plan c) (record { each = refl }) (record { each = refl }, (object_lacks plan h d v, cause_lacks plan h c w))

-- the line that is read has the same text
plain_sequence : (plan : Plan) (d : Handle) (s : Step) (c : Option Cause) → wait_text plan (line_of (thing.Sequence d (plain_step s)) c) ≡ wait_text plan (line_of (thing.Sequence d s) c)
plain_sequence plan d (step.Run b i) c = refl
plain_sequence plan d (step.Pass s i) c = refl

pub plain_text : (plan : Plan) (x : OpenThing) (c : Option Cause) → wait_text plan (plain_wait x c) ≡ wait_text plan (line_of x c)
plain_text plan (thing.Sequence d s) c = plain_sequence plan d s c
plain_text plan (thing.Leaving o) None = refl
plain_text plan (thing.Leaving o) (Some (cause.ByFrame f)) = refl
plain_text plan (thing.Leaving o) (Some (cause.ByLock l g)) = refl
plain_text plan (thing.Leaving o) (Some (cause.ByRequest r)) = refl
plain_text plan (thing.Leaving o) (Some (cause.ByWork y)) = refl
plain_text plan (thing.Leaving o) (Some cause.Stopped) = refl
plain_text plan (thing.Leaving o) (Some cause.Unpowered) = refl
plain_text plan (thing.Leaving o) (Some cause.Manual) = refl
plain_text plan (thing.Leaving o) (Some (cause.Behind b)) = refl
plain_text plan (thing.Leaving o) (Some cause.Full) = refl
plain_text plan (thing.Leaving o) (Some cause.ScopeHeld) = refl
plain_text plan (thing.Leaving o) (Some cause.NoCpu) = refl
plain_text plan (thing.Leaving o) (Some (cause.References n)) = refl
plain_text plan (thing.Leaving o) (Some (cause.ByChild x)) = refl
plain_text plan (thing.Leaving o) (Some (cause.AtTarget t)) = refl
plain_text plan _ c = refl

-- a sequence has a cause whatever its step
sequence_row : (d : Handle) (s t : Step) (c : Option Cause) → has_cause (thing.Sequence d s) c ≡ true → has_cause (thing.Sequence d t) c ≡ true
sequence_row d s t None row = row
sequence_row d s t (Some (cause.ByFrame f)) row = row
sequence_row d s t (Some (cause.ByLock l g)) row = row
sequence_row d s t (Some (cause.ByRequest r)) row = row
sequence_row d s t (Some (cause.ByWork y)) row = row
sequence_row d s t (Some cause.Stopped) row = row
sequence_row d s t (Some cause.Unpowered) row = row
sequence_row d s t (Some cause.Manual) row = row
sequence_row d s t (Some (cause.Behind b)) row = row
sequence_row d s t (Some cause.Full) row = row
sequence_row d s t (Some cause.ScopeHeld) row = row
sequence_row d s t (Some cause.NoCpu) row = row
sequence_row d s t (Some (cause.References n)) row = row
sequence_row d s t (Some (cause.ByChild x)) row = row
sequence_row d s t (Some (cause.AtTarget u)) row = row

pub plain_IsWaitOf : (plan : Plan) (x : OpenThing) (c : Option Cause) → IsWaitOf plan (line_of x c) → IsWaitOf plan (plain_wait x c)
plain_IsWaitOf plan (thing.Sequence d s) c v = (sequence_row d s (plain_step s) c v.0, v.1, v.2)
plain_IsWaitOf plan (thing.Leaving o) None v = v
plain_IsWaitOf plan (thing.Leaving o) (Some (cause.ByFrame f)) v = v
plain_IsWaitOf plan (thing.Leaving o) (Some (cause.ByLock l g)) v = v
plain_IsWaitOf plan (thing.Leaving o) (Some (cause.ByRequest r)) v = v
plain_IsWaitOf plan (thing.Leaving o) (Some (cause.ByWork y)) v = v
plain_IsWaitOf plan (thing.Leaving o) (Some cause.Stopped) v = v
plain_IsWaitOf plan (thing.Leaving o) (Some cause.Unpowered) v = v
plain_IsWaitOf plan (thing.Leaving o) (Some cause.Manual) v = v
plain_IsWaitOf plan (thing.Leaving o) (Some (cause.Behind b)) v = v
plain_IsWaitOf plan (thing.Leaving o) (Some cause.Full) v = v
plain_IsWaitOf plan (thing.Leaving o) (Some cause.ScopeHeld) v = v
plain_IsWaitOf plan (thing.Leaving o) (Some cause.NoCpu) v = v
plain_IsWaitOf plan (thing.Leaving o) (Some (cause.References n)) v = v
plain_IsWaitOf plan (thing.Leaving o) (Some (cause.ByChild x)) v = v
plain_IsWaitOf plan (thing.Leaving o) (Some (cause.AtTarget t)) v = (refl, (v.1, v.2), tt)
plain_IsWaitOf plan _ c v = v

-- what is read loosely from a line of a wait list has that line
pub wait_read : (plan : Plan) → HasNames plan → (text : List ℕ) (w : WaitLine) → w ≡ wait_in plan (words text) → (wait : WaitLine) → IsWaitOf plan wait → wait_text plan wait ≡ text → (wait_text plan w ≡ text) × IsWaitOf plan w
wait_read plan h text w is wait v same =
    let e : w ≡ plain_wait wait.thing wait.cause =
    is ∙ ap (λ t. wait_in plan (words t)) (sym same) ∙ ap (wait_in plan) (wait_words plan h wait.thing wait.cause v.1 v.2) ∙ wait_back plan h wait.thing wait.cause v.0 v.1 v.2 in
    let P : WaitLine → Type 0 = λ x. IsWaitOf plan x in
    (ap (wait_text plan) e ∙ plain_text plan wait.thing wait.cause ∙ same, subst P (sym e) (plain_IsWaitOf plan wait.thing wait.cause v))
