-- Names, and what is found by its name.
use Rattle.std.proofs.Common.{◌≡◌, ℕ, zero, suc, ◌==◌, ◌<◌, ◌≤◌, ◌^◌, Bool, true, false, ◌||◌, List, [], ◌∷◌, length, Some, None, get_or, unwrap_or, position, option_map, slice_get, refl, sym, ap, ◌∙◌, arith, lt-ltb}
use Rattle.std.specs.Char.{is_ascii_alphabetic, is_ascii_alphanumeric}
use Rattle.std.specs.List.{list_all, position_or_len}
use Rattle.std.specs.Str.{bytes_eq}
use Rattle.std.proofs.lemmas.Bool.{and_parts, and_from, cond-true, false_from_ne_true}
use Rattle.std.proofs.lemmas.Slice.Eq.{bytes_eq-Decides}
use Rattle.std.proofs.lemmas.List.Sums.{position_or_len_is}
use Rattle.wdf_base.specs.declared.plan.Plan.{Plan}
use Rattle.wdf_base.specs.declared.declared.ClassInfo.{ClassInfo}
use Rattle.wdf_base.specs.declared.declared.RegisterInfo.{RegisterInfo}
use Rattle.wdf_base.specs.declared.script.AgentInfo.{AgentInfo}
use Rattle.wdf_base.specs.Kinds.{class_name}
use Rattle.wdf_base.specs.Resolved.{agent_name, register_name, is_name, is_reserved}
use Rattle.wdf_lines.specs.Lines.{name_text, named, class_text, register_text}
use Rattle.wdf_trace.specs.Reading.{name_of, class_of, register_of}
use Rattle.wdf_trace.proofs.Blanks.{Lacks, Lacks_from, other_byte}

-- the items of a list have names of the plan, each its own
pub record IsNamedBy (T : Type 0) (plan : Plan) (f : T → ℕ) (xs : List T) : Type 0 where
  pub there : (k : ℕ) (d : T) → k < length xs → f (get_or xs k d) < length plan.names
  pub apart : (j k : ℕ) (d : T) → j < k → k < length xs → f (get_or xs j d) ≡ f (get_or xs k d) → ⊥

-- what reading a line needs of the names of a plan
pub record HasNames (plan : Plan) : Type 0 where
  pub plain : (n : ℕ) → n < length plan.names → is_name (name_text plan n) ≡ true
  pub back : (n : ℕ) → n < length plan.names → name_of plan (name_text plan n) ≡ n
  pub classes : IsNamedBy ClassInfo plan class_name plan.classes
  pub registers : IsNamedBy RegisterInfo plan register_name plan.registers
  pub agents : IsNamedBy AgentInfo plan agent_name plan.agents
  pub class_free : (k : ℕ) (d : ClassInfo) → k < length plan.classes → is_reserved (name_text plan (class_name (get_or plan.classes k d))) ≡ false
  pub few : length plan.declared < 2 ^ 32
  pub agent_free : (k : ℕ) (d : AgentInfo) → k < length plan.agents → is_reserved (name_text plan (agent_name (get_or plan.agents k d))) ≡ false

-- a name has letters, digits and underscores
pub is_name_lacks : (c : ℕ) (w : List ℕ) → is_ascii_alphabetic c ≡ false → (is_ascii_alphanumeric c || (c == 95)) ≡ false → is_name w ≡ true → Lacks c w
is_name_lacks c [] a b h = absurd (let z : ⊥ = cc in z)
is_name_lacks c (x ∷ xs) a b h =
    let k = and_parts (is_ascii_alphabetic x) (list_all (λ y. is_ascii_alphanumeric y || (y == 95)) xs) h in
    record { each = and_from _ _ (other_byte is_ascii_alphabetic c x a k.0) (Lacks_from (λ y. is_ascii_alphanumeric y || (y == 95)) c xs b k.1) }

pub same_bytes : (w : List ℕ) → bytes_eq w w ≡ true
same_bytes w = (bytes_eq-Decides w w).1 refl

-- the first place that passes
pub first_place : {T : Type 0} (p : T → Bool) (xs : List T) (k : ℕ) (d : T) → k < length xs → p (get_or xs k d) ≡ true → ((j : ℕ) → j < k → p (get_or xs j d) ≡ false) → position p xs ≡ Some k
first_place p xs k d within here before =
    let inside : k ≤ length xs = omega arith in
    let e : position_or_len p xs ≡ k = position_or_len_is p xs k d inside before (λ _. here) in
    let small : position_or_len p xs < length xs = omega arith in
    cond-true _ (Some (position_or_len p xs)) None (lt-ltb _ _ small) ∙ ap (λ n. Some n) e

-- names of two numbers differ
pub names_apart : (plan : Plan) → HasNames plan → (m n : ℕ) → m < length plan.names → n < length plan.names → (m ≡ n → ⊥) → bytes_eq (name_text plan m) (name_text plan n) ≡ false
names_apart plan h m n small there apart =
    false_from_ne_true _ (λ e. apart (sym (h.back m small) ∙ ap (name_of plan) ((bytes_eq-Decides (name_text plan m) (name_text plan n)).0 e) ∙ h.back n there))

-- what has a name of its own is found by it
pub place_by_name : {T : Type 0} (plan : Plan) → HasNames plan → (f : T → ℕ) (xs : List T) → IsNamedBy T plan f xs → (k : ℕ) (d : T) → k < length xs → position (λ x. bytes_eq (name_text plan (f x)) (name_text plan (f (get_or xs k d)))) xs ≡ Some k
place_by_name {T} plan h f xs g k d within =
    first_place (λ x. bytes_eq (name_text plan (f x)) (name_text plan (f (get_or xs k d)))) xs k d within (same_bytes (name_text plan (f (get_or xs k d))))
    (λ j below.
    let inside : j < length xs = omega arith in
    names_apart plan h (f (get_or xs j d)) (f (get_or xs k d)) (g.there j d inside) (g.there k d within) (g.apart j k d below within))

-- the item at a place
pub item_at : {T : Type 0} (xs : List T) (k : ℕ) → k < length xs → (x : T) × (slice_get xs k ≡ Some x) × (get_or xs k x ≡ x)
item_at [] k h = absurd (omega arith)
item_at (x ∷ xs) zero h = (x, refl, refl)
item_at (x ∷ xs) (suc k) h = item_at xs k (omega arith)

-- what has a name is shown by it
pub text_by_name : {T : Type 0} (plan : Plan) (f : T → ℕ) (xs : List T) (k : ℕ) (x : T) → slice_get xs k ≡ Some x → named plan (option_map f (slice_get xs k)) ≡ name_text plan (f x)
text_by_name plan f xs k x e = ap (λ o. named plan (option_map f o)) e

pub class_of-class_text : (plan : Plan) → HasNames plan → (c : ℕ) → c < length plan.classes → class_of plan (class_text plan c) ≡ Some c
class_of-class_text plan h c within =
    let (x, got, same) = item_at plan.classes c within in
    ap (class_of plan) (text_by_name plan class_name plan.classes c x got) ∙ ap (λ y. class_of plan (name_text plan (class_name y))) (sym same) ∙ place_by_name plan h class_name plan.classes h.classes c x within

pub register_of-register_text : (plan : Plan) → HasNames plan → (r : ℕ) → r < length plan.registers → register_of plan (register_text plan r) ≡ r
register_of-register_text plan h r within =
    let (x, got, same) = item_at plan.registers r within in
    ap (register_of plan) (text_by_name plan register_name plan.registers r x got ∙ ap (λ y. name_text plan (register_name y)) (sym same))
    ∙ ap (λ o. unwrap_or o 0) (place_by_name plan h register_name plan.registers h.registers r x within)
