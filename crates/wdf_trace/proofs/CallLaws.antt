-- A call and its answer are read back from their words.
use Rattle.std.proofs.Common.{◌≡◌, ℕ, zero, suc, ◌+◌, ◌≤◌, List, [], ◌∷◌, ◌++◌, take, unwrap_or, ltb, sym, refl, ap, ◌∙◌, arith, codes}
use Rattle.wdf_base.specs.declared.plan.Plan.{Plan}
use Rattle.wdf_base.specs.declared.value.Value.{Value}
use Rattle.wdf_base.specs.declared.call.Arg.{Arg}
use Rattle.wdf_base.specs.declared.call.Call.{Call}
use Rattle.wdf_base.specs.declared.call.CallKind.{CallKind}
use Rattle.wdf_base.specs.declared.call.CallKind.TheVariants as call
use Rattle.wdf_base.specs.declared.signature.Sort.{Sort}
use Rattle.wdf_base.specs.declared.signature.Sort.TheVariants as sort
use Rattle.wdf_base.specs.Calls.{signature_of, one_argument}
use Rattle.wdf_base.specs.Words.{call_word}
use Rattle.wdf_base.proofs.WordLaws.{call-back}
use Rattle.wdf_lines.specs.Lines.{value_text, argument_text, argument_words}
use Rattle.wdf_trace.specs.Reading.{word}
use Rattle.wdf_trace.specs.Told.{argument_of, call_with, kind_in, call_in, answer_in, value_of}
use Rattle.wdf_trace.specs.Events.{IsValueOf, IsArgumentOf, IsCallOf}
use Rattle.wdf_trace.proofs.Blanks.{AllLack}
use Rattle.wdf_trace.proofs.NameLaws.{HasNames}
use Rattle.wdf_trace.proofs.ValueLaws.{ap3, value_of-value_text, argument_of-argument_text, argument_lacks}

-- ---- how many arguments a call takes

one_at_most : (s : Sort) → one_argument s ≤ 1
one_at_most sort.Absent = omega arith
one_at_most _ = omega arith

-- no call takes more than three
three_at_most : (plan : Plan) (c : Call) → IsCallOf plan c → c.count ≤ 3
three_at_most plan c v =
    let s = signature_of c.kind in
    omega (arith, v.0, one_at_most s.a, one_at_most s.b, one_at_most s.c)

-- ---- lines with so many arguments

-- the words of the first arguments
abbrev first_words : Plan → ℕ → Arg → Arg → Arg → List (List ℕ)
first_words plan n x y z = take n (argument_text plan x ∷ argument_text plan y ∷ argument_text plan z ∷ [])

-- the words of a line with these arguments after its first four words
abbrev counted_line : Plan → ℕ → Arg → Arg → Arg → List ℕ → List ℕ → List ℕ → List ℕ → List (List ℕ) → List (List ℕ)
counted_line plan n x y z number cpu verb name rest = number ∷ cpu ∷ verb ∷ name ∷ (first_words plan n x y z ++ rest)

-- the first arguments are read back, and the others are the number 0
counted_back : (plan : Plan) → HasNames plan → (n : ℕ) → n ≤ 3 → (x y z : Arg) → IsArgumentOf plan (ltb 0 n) x → IsArgumentOf plan (ltb 1 n) y → IsArgumentOf plan (ltb 2 n) z → (number cpu verb name : List ℕ) (rest : List (List ℕ)) →
    (argument_of plan (ltb 0 n) (word 4 (counted_line plan n x y z number cpu verb name rest)) ≡ x)
    × (argument_of plan (ltb 1 n) (word 5 (counted_line plan n x y z number cpu verb name rest)) ≡ y)
    × (argument_of plan (ltb 2 n) (word 6 (counted_line plan n x y z number cpu verb name rest)) ≡ z)
counted_back plan h zero small x y z u v w number cpu verb name rest = (sym u, sym v, sym w)
counted_back plan h (suc zero) small x y z u v w number cpu verb name rest =
    (argument_of-argument_text plan h x u, sym v, sym w)
counted_back plan h (suc (suc zero)) small x y z u v w number cpu verb name rest =
    (argument_of-argument_text plan h x u, argument_of-argument_text plan h y v, sym w)
counted_back plan h (suc (suc (suc zero))) small x y z u v w number cpu verb name rest =
    (argument_of-argument_text plan h x u, argument_of-argument_text plan h y v, argument_of-argument_text plan h z w)
counted_back plan h (suc (suc (suc (suc n)))) small x y z u v w number cpu verb name rest = absurd (omega (arith, small))

-- the answer comes after the arguments and an arrow
counted_answer : (plan : Plan) (n : ℕ) → n ≤ 3 → (x y z : Arg) (number cpu verb name answer : List ℕ) → word (n + 5) (counted_line plan n x y z number cpu verb name (codes "->" ∷ answer ∷ [])) ≡ answer
counted_answer plan zero small x y z number cpu verb name answer = refl
counted_answer plan (suc zero) small x y z number cpu verb name answer = refl
counted_answer plan (suc (suc zero)) small x y z number cpu verb name answer = refl
counted_answer plan (suc (suc (suc zero))) small x y z number cpu verb name answer = refl
counted_answer plan (suc (suc (suc (suc n)))) small x y z number cpu verb name answer = absurd (omega (arith, small))

-- no argument has a blank
counted_lack : (plan : Plan) → HasNames plan → (n : ℕ) → n ≤ 3 → (x y z : Arg) → IsArgumentOf plan (ltb 0 n) x → IsArgumentOf plan (ltb 1 n) y → IsArgumentOf plan (ltb 2 n) z → AllLack 32 (first_words plan n x y z)
counted_lack plan h zero small x y z u v w = tt
counted_lack plan h (suc zero) small x y z u v w = (argument_lacks plan h x u, tt)
counted_lack plan h (suc (suc zero)) small x y z u v w = (argument_lacks plan h x u, (argument_lacks plan h y v, tt))
counted_lack plan h (suc (suc (suc zero))) small x y z u v w =
    (argument_lacks plan h x u, (argument_lacks plan h y v, (argument_lacks plan h z w, tt)))
counted_lack plan h (suc (suc (suc (suc n)))) small x y z u v w = absurd (omega (arith, small))

-- ---- the call

pub kind_in-call_word : (k : CallKind) → kind_in (call_word k) ≡ k
unfolding kind_in
kind_in-call_word k = ap (λ o. unwrap_or o call.GetContext) (call-back k)

-- the words of a line with a call
abbrev pub call_line : Plan → Call → List ℕ → List ℕ → List ℕ → List (List ℕ) → List (List ℕ)
call_line plan c n cpu verb rest = n ∷ cpu ∷ verb ∷ call_word c.kind ∷ (argument_words plan c ++ rest)

-- the call is read back
pub call_in-words : (plan : Plan) → HasNames plan → (c : Call) → IsCallOf plan c → (n cpu verb : List ℕ) (rest : List (List ℕ)) → call_in plan (call_line plan c n cpu verb rest) ≡ c
call_in-words plan h c v n cpu verb rest =
    let line = call_line plan c n cpu verb rest in
    let back = counted_back plan h c.count (three_at_most plan c v) c.a c.b c.c v.1 v.2 v.3 n cpu verb (call_word c.kind) rest in
    let make : ℕ → Arg → Arg → Arg → Call = λ k x y z. record { kind = c.kind; count = k; a = x; b = y; c = z } in
    let read : ℕ → Call = λ k. make k (argument_of plan (ltb 0 k) (word 4 line)) (argument_of plan (ltb 1 k) (word 5 line)) (argument_of plan (ltb 2 k) (word 6 line)) in
    ap (λ k. call_with plan k line) (kind_in-call_word c.kind) ∙ ap read (sym v.0) ∙ ap3 (make c.count) back.0 back.1 back.2

pub answer_in-words : (plan : Plan) → HasNames plan → (c : Call) → IsCallOf plan c → (x : Value) → IsValueOf plan x → (n cpu verb : List ℕ) → answer_in plan c (call_line plan c n cpu verb (codes "->" ∷ value_text plan x ∷ [])) ≡ x
answer_in-words plan h c v x valid n cpu verb =
    ap (value_of plan) (counted_answer plan c.count (three_at_most plan c v) c.a c.b c.c n cpu verb (call_word c.kind) (value_text plan x))
    ∙ value_of-value_text plan h x valid

-- ---- blanks

pub AllLack_append : (c : ℕ) (us vs : List (List ℕ)) → AllLack c us → AllLack c vs → AllLack c (us ++ vs)
AllLack_append c [] vs h k = k
AllLack_append c (u ∷ us) vs h k = (h.0, AllLack_append c us vs h.1 k)

-- no argument of a call has a blank
pub arguments_lack : (plan : Plan) → HasNames plan → (c : Call) → IsCallOf plan c → AllLack 32 (argument_words plan c)
arguments_lack plan h c v = counted_lack plan h c.count (three_at_most plan c v) c.a c.b c.c v.1 v.2 v.3
