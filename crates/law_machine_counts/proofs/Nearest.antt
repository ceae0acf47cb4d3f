-- The nearest device of an object stays what it was where neither the object nor what is above it ends.
use Rattle.std.proofs.Common.{if◌then◌else◌, ◌≡◌, ◌≢◌, ℕ, suc, ◌+◌, ◌<◌, ◌≤◌, Bool, true, false, List, [], ◌∷◌, ◌++◌, ◌⊎◌, inl, inr, length, refl, ap, sym, ◌∙◌, subst, arith, length-append}
use Rattle.wdf_base.specs.declared.object.Kind.TheVariants as kind
use Rattle.wdf_base.specs.Same.{same_kind}
use Rattle.wdf_model.specs.declared.entries.Node.{Node}
use Rattle.wdf_model.specs.Tables.{entry}
use Rattle.wdf_model.specs.parts.Tree.{gone, nearest_devices, own_device}
use Rattle.wdf_model.proofs.Maps.{entry_before, entry_last}
use Rattle.wdf_model.proofs.Counts.{one_or_two}

-- a node that is where another was, as far as its nearest device goes
pub record Alike (Fine : ℕ → Type 0) (n m : Node) : Type 0 where
  pub device : same_kind m.kind kind.Device ≡ same_kind n.kind kind.Device
  pub parent : m.parent.0 ≡ n.parent.0
  pub fine : Fine n.parent.0

longer_one : (xs : List ℕ) (x : ℕ) → length (xs ++ x ∷ []) ≡ suc (length xs)
longer_one xs x = let e = length-append xs (x ∷ []) in omega arith

-- those before stay
pub front_stays : (before : List ℕ) (ns : List Node) (o : ℕ) → o < length before → entry 1 (nearest_devices before ns) o ≡ entry 1 before o
front_stays before [] o h = refl
front_stays before (n ∷ ns) o h =
    let more = longer_one before (own_device before (length before) n) in
    front_stays (before ++ own_device before (length before) n ∷ []) ns o (omega arith)
    ∙ entry_before 1 before (own_device before (length before) n) o (λ e. let z : ⊥ = omega arith in z)

own_alike : (n m : Node) (b : Bool) (o x y : ℕ) → same_kind n.kind kind.Device ≡ b → same_kind m.kind kind.Device ≡ b → x ≡ y → (if same_kind m.kind kind.Device then o else x) ≡ (if same_kind n.kind kind.Device then o else y)
own_alike n m true o x y e f h = rw (e, f) refl
own_alike n m false o x y e f h = rw (e, f) h

module _ (Fine : ℕ → Type 0) where
  agrees_by : (before later : List ℕ) (x y i : ℕ) → length before ≡ length later → ((j : ℕ) → Fine j → entry 1 later j ≡ entry 1 before j) → (Fine (length before) → y ≡ x) → Fine i → (i ≡ length before) ⊎ (i ≢ length before)
      → entry 1 (later ++ y ∷ []) i ≡ entry 1 (before ++ x ∷ []) i
  agrees_by before later x y i long same now fine (inl e) =
      let there : i ≡ length later = e ∙ long in
      ap (entry 1 (later ++ y ∷ [])) there ∙ entry_last 1 later y ∙ now (rw e at fine) ∙ sym (entry_last 1 before x) ∙ sym (ap (entry 1 (before ++ x ∷ [])) e)
  agrees_by before later x y i long same now fine (inr n) =
      entry_before 1 later y i (λ e. n (e ∙ sym long)) ∙ same i fine ∙ sym (entry_before 1 before x i n)

  pub nearest_stays : (before later : List ℕ) (ns ms : List Node) → length before ≡ length later → ((j : ℕ) → Fine j → entry 1 later j ≡ entry 1 before j)
      → ((i : ℕ) → i < length ns → Fine (length before + i) → Alike Fine (entry gone ns i) (entry gone ms i)) → length ns ≤ length ms
      → (o : ℕ) → Fine o → o < length before + length ns → entry 1 (nearest_devices later ms) o ≡ entry 1 (nearest_devices before ns) o
  nearest_stays before later [] ms long same alike shorter o fine inside = front_stays later ms o (omega arith) ∙ same o fine
  nearest_stays before later (n ∷ ns) [] long same alike shorter o fine inside = absurd (omega arith)
  nearest_stays before later (n ∷ ns) (m ∷ ms) long same alike shorter o fine inside =
      let x : ℕ = own_device before (length before) n in
      let y : ℕ = own_device later (length later) m in
      let more = longer_one before x in
      let more_too = longer_one later y in
      let start : length before + 0 ≡ length before = omega arith in
      nearest_stays (before ++ x ∷ []) (later ++ y ∷ []) ns ms (omega arith)
      (λ j fine_j. agrees_by before later x y j long same
      (λ fine_here. let a : Alike Fine n m = alike 0 (omega arith) (rw start fine_here) in
      ap (λ k. if same_kind m.kind kind.Device then k else entry 1 later m.parent.0) (sym long)
      ∙ own_alike n m (same_kind n.kind kind.Device) (length before) (entry 1 later m.parent.0) (entry 1 before n.parent.0) refl a.device (ap (entry 1 later) a.parent ∙ same n.parent.0 a.fine))
      fine_j (one_or_two j (length before)))
      (λ i within fine_i. let e : length (before ++ x ∷ []) + i ≡ length before + suc i = omega arith in alike (suc i) (omega arith) (rw e at fine_i))
      (omega arith) o fine (omega arith)

-- ---- nearest devices are numbers of a table

either_below : (n : ℕ) (b : Bool) (x y : ℕ) → x < n → y < n → (if b then x else y) < n
either_below n true x y h k = h
either_below n false x y h k = k

one_more : (n : ℕ) (before : List ℕ) (x : ℕ) → x < n → ((o : ℕ) → entry 1 before o < n) → (o : ℕ) → entry 1 (before ++ x ∷ []) o < n
one_more n before x h each o = elim (one_or_two o (length before)) [
  | inl e ↦ rw e (subst (λ y. y < n) (sym (entry_last 1 before x)) h)
  | inr d ↦ subst (λ y. y < n) (sym (entry_before 1 before x o d)) (each o)
]

pub nearest_below : (n : ℕ) (before : List ℕ) (ns : List Node) → length before + length ns ≤ n → ((o : ℕ) → entry 1 before o < n) → (o : ℕ) → entry 1 (nearest_devices before ns) o < n
nearest_below n before [] fits each o = each o
nearest_below n before (m ∷ ns) fits each o =
    let x : ℕ = own_device before (length before) m in
    let here : length before < n = omega (arith, fits) in
    let long : length (before ++ x ∷ []) ≡ length before + 1 = length-append before (x ∷ []) in
    nearest_below n (before ++ x ∷ []) ns (omega (arith, fits, long)) (one_more n before x (either_below n (same_kind m.kind kind.Device) (length before) (entry 1 before m.parent.0) here (each m.parent.0)) each) o
