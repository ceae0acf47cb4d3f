-- What each word names is read back from it.
use Rattle.std.proofs.Common.{◌≡◌, ℕ, ◌==◌, ◌<◌, ◌^◌, Bool, true, false, List, [], ◌∷◌, length, Option, Some, None, get_or, position, refl, sym, ap, ◌∙◌, arith, decimal, ltb, ◌⊎◌, inl, inr}
use Rattle.std.specs.Char.{is_ascii_digit, is_ascii_alphabetic}
use Rattle.std.specs.List.{list_all, position_or_len}
use Rattle.std.proofs.lemmas.Bool.{both_ways, false_from_ne_true, cond-true, cond-false, and_parts, and_left, ltb-true, ne_eqb}
use Rattle.std.proofs.lemmas.Bool.Decides.{nat_tests}
use Rattle.std.proofs.lemmas.Option.{cond_some}
use Rattle.std.proofs.lemmas.Slice.Eq.{bytes_eq-Decides}
use Rattle.std.proofs.lemmas.List.Quantifiers.{position-Some}
use Rattle.wdf_base.specs.declared.plan.Plan.{Plan}
use Rattle.wdf_base.specs.declared.ids.Handle.{Handle}
use Rattle.wdf_base.specs.declared.ids.Cpu.{Cpu}
use Rattle.wdf_base.specs.declared.value.Value.{Value}
use Rattle.wdf_base.specs.declared.value.Value.TheVariants.{Num, Obj, Stat}
use Rattle.wdf_base.specs.declared.call.Arg.{Arg}
use Rattle.wdf_base.specs.declared.call.Arg.TheVariants.{Val, Class}
use Rattle.wdf_base.specs.Kinds.{class_name}
use Rattle.wdf_base.specs.Resolved.{is_name, is_reserved, register_name}
use Rattle.wdf_base.specs.Words.{status_word, status_of}
use Rattle.wdf_base.proofs.WordLaws.{status-back, status-only}
use Rattle.wdf_text.proofs.ReadBack.{decimal_digits}
use Rattle.wdf_lines.specs.Lines.{name_text, object_text, class_text, register_text, cpu_text, value_text, argument_text, answer_text}
use Rattle.wdf_trace.specs.Reading.{parts, word, short_of, below, cpu_of, has_dot, object_of, name_of, class_of, is_class_with}
use Rattle.wdf_trace.specs.Told.{status_or_number, value_of, class_or_value, argument_of, optional_of, answer_of}
use Rattle.wdf_trace.specs.Events.{IsHandleOf, IsOptionalOf, IsValueOf, IsArgumentOf}
use Rattle.wdf_trace.proofs.Blanks.{Lacks, Lacks_append, parts_last, parts_more, has_dot_none, has_dot_some}
use Rattle.wdf_trace.proofs.Decimals.{Lacks_decimal, number_of-decimal, short_of-decimal, below_is}
use Rattle.wdf_trace.proofs.NameLaws.{HasNames, is_name_lacks, item_at, text_by_name, class_of-class_text}
use Rattle.wdf_trace.proofs.WordLaws.{status_word_lacks, status_word_no_dot, status_word_no_digits, status_word_reserved}

-- two arguments at once
pub ap2 : {A B C : Type 0} (f : A → B → C) {a a' : A} {b b' : B} → a ≡ a' → b ≡ b' → f a b ≡ f a' b'
ap2 f {a' = a'} {b = b} p q = ap (λ x. f x b) p ∙ ap (f a') q

-- three and four
pub ap3 : {A B C D : Type 0} (f : A → B → C → D) {a a' : A} {b b' : B} {c c' : C} → a ≡ a' → b ≡ b' → c ≡ c' → f a b c ≡ f a' b' c'
ap3 f {a' = a'} {b' = b'} {c = c} p q r = ap (λ g. g c) (ap2 f p q) ∙ ap (f a' b') r

pub ap4 : {A B C D E : Type 0} (f : A → B → C → D → E) {a a' : A} {b b' : B} {c c' : C} {d d' : D} → a ≡ a' → b ≡ b' → c ≡ c' → d ≡ d' → f a b c d ≡ f a' b' c' d'
ap4 f {a' = a'} {b' = b'} {c' = c'} {d = d} p q r s = ap (λ g. g d) (ap3 f p q r) ∙ ap (f a' b' c') s

-- ---- processors

pub cpu_of-cpu_text : (cpu : Cpu) → cpu.0 < 2 ^ 8 → cpu_of (cpu_text cpu) ≡ cpu
cpu_of-cpu_text cpu h =
    let wide : cpu.0 < 2 ^ 64 = omega arith in
    let make : ℕ → Cpu = λ n. record { 0 = n } in
    ap make (ap (below (2 ^ 8)) (number_of-decimal cpu.0 wide) ∙ below_is (2 ^ 8) cpu.0 h)

-- ---- objects

pub name_lacks_dot : (plan : Plan) → HasNames plan → (n : ℕ) → n < length plan.names → Lacks 46 (name_text plan n)
name_lacks_dot plan h n there = is_name_lacks 46 (name_text plan n) refl refl (h.plain n there)

pub name_lacks_blank : (plan : Plan) → HasNames plan → (n : ℕ) → n < length plan.names → Lacks 32 (name_text plan n)
name_lacks_blank plan h n there = is_name_lacks 32 (name_text plan n) refl refl (h.plain n there)

-- the parts of an object's word
pub object_parts : (plan : Plan) → HasNames plan → (o : Handle) → IsHandleOf plan o → parts 46 (object_text plan o) ≡ name_text plan o.name ∷ decimal o.id.0 ∷ []
object_parts plan h o v =
    let wide : o.id.0 < 2 ^ 64 = omega arith in
    parts_more 46 (name_text plan o.name) (decimal o.id.0) (name_lacks_dot plan h o.name v.1)
    ∙ ap (λ t. name_text plan o.name ∷ t) (parts_last 46 (decimal o.id.0) (Lacks_decimal 46 o.id.0 refl wide))

pub object_of-object_text : (plan : Plan) → HasNames plan → (o : Handle) → IsHandleOf plan o → object_of plan (object_text plan o) ≡ o
object_of-object_text plan h o v =
    let e = object_parts plan h o v in
    let make : ℕ → ℕ → Handle = λ i n. record { id = record { 0 = i }; name = n } in
    ap2 make (ap (λ ps. short_of (word 1 ps)) e ∙ short_of-decimal o.id.0 v.0) (ap (λ ps. name_of plan (word 0 ps)) e ∙ h.back o.name v.1)

pub has_dot-object_text : (plan : Plan) (o : Handle) → has_dot (object_text plan o) ≡ true
has_dot-object_text plan o = has_dot_some (name_text plan o.name) (decimal o.id.0)

pub object_lacks : (plan : Plan) → HasNames plan → (o : Handle) → IsHandleOf plan o → Lacks 32 (object_text plan o)
object_lacks plan h o v =
    let wide : o.id.0 < 2 ^ 64 = omega arith in
    Lacks_append 32 (name_text plan o.name) (46 ∷ decimal o.id.0) (name_lacks_blank plan h o.name v.1)
    (record { each = (Lacks_decimal 32 o.id.0 refl wide).each })

-- ---- values

pub has_dot-decimal : (n : ℕ) → n < 2 ^ 64 → has_dot (decimal n) ≡ false
has_dot-decimal n h = has_dot_none (decimal n) (Lacks_decimal 46 n refl h)

-- the answer of a look-up by cases, each with its equation
pub cases_of : {T : Type 0} (o : Option T) → (o ≡ None) ⊎ ((x : T) × (o ≡ Some x))
cases_of None = inl refl
cases_of (Some x) = inr (x, refl)

-- no status has digits for its word
pub status_of-decimal : (n : ℕ) → n < 2 ^ 64 → status_of (decimal n) ≡ None
status_of-decimal n h =
    elim (cases_of (status_of (decimal n))) [
      | inl e ↦ e
      | inr p ↦ absurd (both_ways (list_all is_ascii_digit (status_word p.0)) (status_word_no_digits p.0) (ap (list_all is_ascii_digit) (status-only p.0 (decimal n) p.1) ∙ decimal_digits n h))
    ]

pub value_of-value_text : (plan : Plan) → HasNames plan → (v : Value) → IsValueOf plan v → value_of plan (value_text plan v) ≡ v
value_of-value_text plan h (Num n) small =
    cond-false _ _ _ (has_dot-decimal n small)
    ∙ ap (λ s. status_or_number s (decimal n)) (status_of-decimal n small) ∙ ap Num (number_of-decimal n small)
value_of-value_text plan h (Obj o) v =
    cond-true _ _ _ (has_dot-object_text plan o) ∙ ap Obj (object_of-object_text plan h o v)
value_of-value_text plan h (Stat s) v =
    cond-false _ _ _ (status_word_no_dot s) ∙ ap (λ t. status_or_number t (status_word s)) (status-back s)

-- the word of a value has no blank
pub value_lacks : (plan : Plan) → HasNames plan → (v : Value) → IsValueOf plan v → Lacks 32 (value_text plan v)
value_lacks plan h (Num n) small = Lacks_decimal 32 n refl small
value_lacks plan h (Obj o) v = object_lacks plan h o v
value_lacks plan h (Stat s) v = status_word_lacks s

-- ---- classes and arguments

-- a byte that is a digit is no letter
digit_no_letter : (b : ℕ) → is_ascii_digit b ≡ true → is_ascii_alphabetic b ≡ false
digit_no_letter b h = grind (arith, nat_tests)

-- digits are no name
pub is_name-digits : (w : List ℕ) → list_all is_ascii_digit w ≡ true → is_name w ≡ false
is_name-digits [] h = refl
is_name-digits (b ∷ w) h =
    let k = and_parts (is_ascii_digit b) (list_all is_ascii_digit w) h in
    and_left (is_ascii_alphabetic b) _ (digit_no_letter b k.0)

-- a word with a dot is no name
pub is_name-dot : (w : List ℕ) → has_dot w ≡ true → is_name w ≡ false
is_name-dot w dot = false_from_ne_true (is_name w) (λ e. both_ways (has_dot w) (has_dot_none w (is_name_lacks 46 w refl refl e)) dot)

-- a value's word is no free name
pub value_no_name : (plan : Plan) (v : Value) → IsValueOf plan v → is_name (value_text plan v) ≡ true → is_reserved (value_text plan v) ≡ false → ⊥
value_no_name plan (Num n) small name free = both_ways (is_name (decimal n)) (is_name-digits (decimal n) (decimal_digits n small)) name
value_no_name plan (Obj o) v name free = both_ways (is_name (object_text plan o)) (is_name-dot (object_text plan o) (has_dot-object_text plan o)) name
value_no_name plan (Stat s) v name free = both_ways (is_reserved (status_word s)) free (status_word_reserved s)

-- a place that is found lies within
pub position_within : {T : Type 0} (p : T → Bool) (xs : List T) (k : ℕ) → position p xs ≡ Some k → k < length xs
position_within p xs k e =
    let found = cond_some (ltb (position_or_len p xs) (length xs)) (position_or_len p xs) k e in
    let small : position_or_len p xs < length xs = ltb-true _ _ found.0 in
    omega (arith, found.1)

-- a class with the word of a value
class_no_value : (plan : Plan) → HasNames plan → (v : Value) → IsValueOf plan v → (c : ℕ) → class_of plan (value_text plan v) ≡ Some c → ⊥
class_no_value plan h v valid c e =
    let within = position_within (is_class_with plan (value_text plan v)) plan.classes c e in
    let (x, got, same) = item_at plan.classes c within in
    let passes = (position-Some (is_class_with plan (value_text plan v)) plan.classes c x e).1 in
    let is : name_text plan (class_name (get_or plan.classes c x)) ≡ value_text plan v = (bytes_eq-Decides _ _).0 passes in
    value_no_name plan v valid
    (ap is_name (sym is) ∙ h.plain _ (h.classes.there c x within))
    (ap is_reserved (sym is) ∙ h.class_free c x within)

-- a value's word names no class
pub class_of-value_text : (plan : Plan) → HasNames plan → (v : Value) → IsValueOf plan v → class_of plan (value_text plan v) ≡ None
class_of-value_text plan h v valid =
    elim (cases_of (class_of plan (value_text plan v))) [
      | inl e ↦ e
      | inr p ↦ absurd (class_no_value plan h v valid p.0 p.1)
    ]

pub argument_of-argument_text : (plan : Plan) → HasNames plan → (a : Arg) → IsArgumentOf plan true a → argument_of plan true (argument_text plan a) ≡ a
argument_of-argument_text plan h (Val x) v =
    ap2 class_or_value (class_of-value_text plan h x v) (value_of-value_text plan h x v)
argument_of-argument_text plan h (Class c) v =
    ap (λ o. class_or_value o (value_of plan (class_text plan c))) (class_of-class_text plan h c v)

-- the word of a class has no blank
pub class_lacks : (plan : Plan) → HasNames plan → (c : ℕ) → c < length plan.classes → Lacks 32 (class_text plan c)
class_lacks plan h c within =
    let (x, got, same) = item_at plan.classes c within in
    rw (text_by_name plan class_name plan.classes c x got, ← same) (name_lacks_blank plan h (class_name (get_or plan.classes c x)) (h.classes.there c x within))

pub argument_lacks : (plan : Plan) → HasNames plan → (a : Arg) → IsArgumentOf plan true a → Lacks 32 (argument_text plan a)
argument_lacks plan h (Val x) v = value_lacks plan h x v
argument_lacks plan h (Class c) v = class_lacks plan h c v

-- ---- parts that may be missing

-- a word with a dot isn't empty
pub dot_length : (w : List ℕ) → has_dot w ≡ true → (length w == 0) ≡ false
dot_length [] dot = absurd (let z : ⊥ = cc in z)
dot_length (b ∷ w) dot = ne_eqb (length (b ∷ w)) 0 (λ e. omega arith)

pub optional_of-object_text : (plan : Plan) → HasNames plan → (o : Handle) → IsHandleOf plan o → optional_of plan (object_text plan o) ≡ Some o
optional_of-object_text plan h o v =
    cond-false _ _ _ (dot_length (object_text plan o) (has_dot-object_text plan o)) ∙ ap (λ x. Some x) (object_of-object_text plan h o v)

pub answer_of-answer_text : (plan : Plan) → HasNames plan → (a : Option Handle) → IsOptionalOf plan a → answer_of plan (answer_text plan a) ≡ a
answer_of-answer_text plan h None v = refl
answer_of-answer_text plan h (Some o) v =
    cond-true _ _ _ (has_dot-object_text plan o) ∙ ap (λ x. Some x) (object_of-object_text plan h o v)

pub answer_lacks : (plan : Plan) → HasNames plan → (a : Option Handle) → IsOptionalOf plan a → Lacks 32 (answer_text plan a)
answer_lacks plan h None v = record { each = refl }
answer_lacks plan h (Some o) v = object_lacks plan h o v

-- ---- registers

pub register_lacks : (plan : Plan) → HasNames plan → (r : ℕ) → r < length plan.registers → Lacks 32 (register_text plan r)
register_lacks plan h r within =
    let (x, got, same) = item_at plan.registers r within in
    rw (text_by_name plan register_name plan.registers r x got, ← same) (name_lacks_blank plan h (register_name (get_or plan.registers r x)) (h.registers.there r x within))
