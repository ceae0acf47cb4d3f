-- The ways that are kept of open blocks: they stay right as blocks open and close, and a way that comes to the front of one leads where it leads.
use Rattle.std.proofs.Common.{◌≡◌, ℕ, zero, suc, ◌+◌, ◌-◌, ◌*◌, ◌<◌, ◌≤◌, Bool, true, false, ◌&&◌, ◌==◌, cond, List, [], ◌∷◌, ◌++◌, length, take, drop, get_or, Option, Some, None, Result, Ok, Err, IfOk, slice_get, refl, ap, sym, subst, ◌∙◌, arith, length-append}
use Rattle.std.specs.Prelude.{nat_lt}
use Rattle.std.proofs.lemmas.Bool.{and_parts, eqb-true, ltb-true}
use Rattle.std.proofs.lemmas.List.{length-take-le, take_all, take-append-le, take-take, take_more}
use Rattle.wdf_scene.specs.declared.line.NumberedLine.{NumberedLine}
use Rattle.wdf_scene.specs.declared.line.SceneLine.{SceneLine}
use Rattle.wdf_scene.specs.declared.line.SceneLine.TheVariants as line
use Rattle.wdf_plan.specs.declared.course.Course.{Course}
use Rattle.wdf_plan.specs.declared.course.Detour.{Detour}
use Rattle.wdf_plan.specs.declared.course.Nest.{Nest}
use Rattle.wdf_plan.specs.declared.course.Nest.TheVariants as nest
use Rattle.wdf_blocks.specs.Blocks.{depth_after}
use Rattle.wdf_plan.specs.Scripts.{reach, outer, nests_after, IsDetour, AreDetours, known_end, shortcut}
use Rattle.wdf_plan.proofs.Passing.{way, leave}
use Rattle.wdf_blocks.proofs.Scans.{depth_less}

-- ---- blocks open and close

-- one block more
pub detours_inner : (x : Nest) (blocks : List Nest) (lines : List NumberedLine) (k : ℕ) (ds : List Detour) → k + length ds ≤ length blocks → AreDetours k blocks lines ds → AreDetours k (blocks ++ x ∷ []) lines ds
detours_inner x blocks lines k [] h d = tt
detours_inner x blocks lines k (t ∷ ts) h d = (
  subst (λ bs. IsDetour bs lines t) (sym (take-append-le (suc k) blocks (x ∷ []) (omega arith))) d.0,
  detours_inner x blocks lines (suc k) ts (omega arith) d.1,
)

-- one way more
pub detours_more : (blocks : List Nest) (lines : List NumberedLine) (k : ℕ) (ds : List Detour) (t : Detour) → AreDetours k blocks lines ds → IsDetour (take (suc (k + length ds)) blocks) lines t → AreDetours k blocks lines (ds ++ t ∷ [])
detours_more blocks lines k [] t d own =
    let same : suc (k + 0) ≡ suc k = omega arith in
    (rw same at own, tt)
detours_more blocks lines k (u ∷ us) t d own =
    let same : suc (k + suc (length us)) ≡ suc (suc k + length us) = omega arith in
    (d.0, detours_more blocks lines (suc k) us t d.1 (rw same at own))

-- that of the innermost block
pub detours_own : (blocks : List Nest) (lines : List NumberedLine) (ds : List Detour) (t : Detour) → length blocks ≡ length ds + 1 → AreDetours 0 blocks lines ds → IsDetour blocks lines t → AreDetours 0 blocks lines (ds ++ t ∷ [])
detours_own blocks lines ds t one d own =
    detours_more blocks lines 0 ds t d (subst (λ bs. IsDetour bs lines t) (sym (take_all (suc (0 + length ds)) blocks (omega arith))) own)

-- the outer ones
detours_taken : (blocks : List Nest) (lines : List NumberedLine) (k n m : ℕ) (ds : List Detour) → k + n ≤ m → AreDetours k blocks lines ds → AreDetours k (take m blocks) lines (take n ds)
detours_taken blocks lines k zero m ds h d = tt
detours_taken blocks lines k (suc n) m [] h d = tt
detours_taken blocks lines k (suc n) m (t ∷ ts) h d = (
  subst (λ bs. IsDetour bs lines t) (sym (take-take (suc k) m blocks (omega arith))) d.0,
  detours_taken blocks lines (suc k) n m ts (omega arith) d.1,
)

pub detours_outer : (blocks : List Nest) (lines : List NumberedLine) (ds : List Detour) → length ds ≡ length blocks → AreDetours 0 blocks lines ds → AreDetours 0 (outer blocks) lines (take (length ds - 1) ds)
detours_outer blocks lines ds same d =
    detours_taken blocks lines 0 (length ds - 1) (length blocks - 1) ds (omega arith) d

-- ---- the blocks after a line

pub after_if : (blocks behind : List Nest) (n number e : ℕ) (form : SceneLine) → behind ≡ nests_after blocks n number form → form ≡ line.If e → behind ≡ blocks ++ nest.Branch ∷ []
unfolding nests_after
after_if blocks behind n number e form is own = is ∙ rw own refl

pub after_repeat : (blocks behind : List Nest) (n number e : ℕ) (form : SceneLine) → behind ≡ nests_after blocks n number form → form ≡ line.Repeat e → behind ≡ blocks ++ nest.Loop number n ∷ []
unfolding nests_after
after_repeat blocks behind n number e form is own = is ∙ rw own refl

pub after_end : (blocks behind : List Nest) (n number : ℕ) (form : SceneLine) → behind ≡ nests_after blocks n number form → form ≡ line.End → behind ≡ outer blocks
unfolding nests_after
after_end blocks behind n number form is own = is ∙ rw own refl

pub after_same : (blocks behind : List Nest) (n number : ℕ) (form : SceneLine) → behind ≡ nests_after blocks n number form → ((e : ℕ) → form ≡ line.If e → ⊥) → ((e : ℕ) → form ≡ line.Repeat e → ⊥) → (form ≡ line.End → ⊥) → behind ≡ blocks
unfolding nests_after
after_same blocks behind n number (line.If e) is no_if no_repeat no_end = absurd (no_if e refl)
after_same blocks behind n number (line.Repeat e) is no_if no_repeat no_end = absurd (no_repeat e refl)
after_same blocks behind n number line.End is no_if no_repeat no_end = absurd (no_end refl)
after_same blocks behind n number form is no_if no_repeat no_end = is

pub kept_inside : (blocks behind : List Nest) (x : Nest) (lines : List NumberedLine) (ds : List Detour) → behind ≡ blocks ++ x ∷ [] → length ds ≡ length blocks → AreDetours 0 blocks lines ds → AreDetours 0 behind lines ds
kept_inside blocks behind x lines ds is each d =
    rw is (detours_inner x blocks lines 0 ds (omega (arith, each)) d)

pub one_inside : (blocks behind : List Nest) (x : Nest) (ds : List Detour) → behind ≡ blocks ++ x ∷ [] → length ds ≡ length blocks → length behind ≡ length ds + 1
one_inside blocks behind x ds is each =
    let long : length (blocks ++ x ∷ []) ≡ length blocks + 1 = length-append blocks (x ∷ []) in
    rw is (omega (arith, long, each))

pub kept_outside : {V E : Type 0} (items : V → List Detour) (blocks behind : List Nest) (lines : List NumberedLine) (ds : List Detour) (r : Result V E) → behind ≡ outer blocks → length ds ≡ length blocks → AreDetours 0 blocks lines ds → IfOk r (λ v. items v ≡ take (length ds - 1) ds) → IfOk r (λ v. AreDetours 0 behind lines (items v))
kept_outside items blocks behind lines ds (Ok v) is each d e =
    rw (is, e) (detours_outer blocks lines ds each d)
kept_outside items blocks behind lines ds (Err x) is each d e = tt

pub each_outside : {V E : Type 0} (items : V → List Detour) (blocks behind : List Nest) (ds : List Detour) (r : Result V E) → behind ≡ outer blocks → length ds ≡ length blocks → IfOk r (λ v. items v ≡ take (length ds - 1) ds) → IfOk r (λ v. length (items v) ≡ length behind)
each_outside items blocks behind ds (Ok v) is each e =
    let a : length (take (length ds - 1) ds) ≡ length ds - 1 = length-take-le (length ds - 1) ds (omega arith) in
    let b : length (take (length blocks - 1) blocks) ≡ length blocks - 1 = length-take-le (length blocks - 1) blocks (omega arith) in
    rw (is, e) (omega (arith, a, b, each))
each_outside items blocks behind ds (Err x) is each e = tt

pub kept_same : {V E : Type 0} (items : V → List Detour) (blocks behind : List Nest) (lines : List NumberedLine) (ds : List Detour) (r : Result V E) → behind ≡ blocks → length ds ≡ length blocks → AreDetours 0 blocks lines ds → IfOk r (λ v. items v ≡ ds) → IfOk r (λ v. AreDetours 0 behind lines (items v)) × IfOk r (λ v. length (items v) ≡ length behind)
kept_same items blocks behind lines ds (Ok v) is each d e = (rw (is, e) d, rw (is, e) each)
kept_same items blocks behind lines ds (Err x) is each d e = (tt, tt)

-- ---- the end of a way that is kept

there : (blocks : List Nest) (lines : List NumberedLine) (k n : ℕ) (ds : List Detour) (t : Detour) → AreDetours k blocks lines ds → slice_get ds n ≡ Some t → IsDetour (take (suc (k + n)) blocks) lines t
there blocks lines k n [] t d e = absurd (let z : ⊥ = cc in z)
there blocks lines k zero (u ∷ us) t d e =
    let same : u ≡ t = cc in
    let here : suc (k + 0) ≡ suc k = omega arith in
    rw (here, ← same) d.0
there blocks lines k (suc n) (u ∷ us) t d e =
    let here : suc (k + suc n) ≡ suc (suc k + n) = omega arith in
    rw here (there blocks lines (suc k) n us t d.1 e)

-- a way that has left so many blocks goes on as in those round them
outside : (blocks : List Nest) (m n number : ℕ) (ls : List NumberedLine) → m + n ≤ length blocks → reach (take (m + n) blocks) (way 0 n number) ls ≡ reach (take m blocks) (way 0 0 number) ls
outside blocks m zero number ls h =
    let same : m + 0 ≡ m = omega arith in
    rw same refl
outside blocks m (suc n) number ls h =
    let last = get_or blocks (m + n) nest.Branch in
    let far : m + suc n ≡ m + n + 1 = omega arith in
    let one : suc n ≡ n + 1 = omega arith in
    let more : take (m + suc n) blocks ≡ take (m + n) blocks ++ last ∷ [] =
    ap (λ i. take i blocks) far ∙ take_more blocks (m + n) nest.Branch (omega arith) in
    ap (λ bs. reach bs (way 0 (suc n) number) ls) more
    ∙ (ap (λ i. reach (take (m + n) blocks ++ last ∷ []) (way 0 i number) ls) one
    ∙ (leave (take (m + n) blocks) last (way 0 n number) ls ∙ outside blocks m n number ls (omega arith)))

-- a way that is kept, whose end is known at this line
record IsKnown (s : Course) (at n : ℕ) (o : Option Detour) : Type 0 where
  detour : Detour
  is : o ≡ Some detour
  here : detour.at ≡ at
  number : detour.number ≡ s.number
  leads : detour.leads ≡ n

known : (s : Course) (at n : ℕ) (o : Option Detour) → known_end s at o ≡ Some n → IsKnown s at n o
known s at n None e = absurd (let z : ⊥ = cc in z)
known s at n (Some t) e = by_test ((t.at == at) && (t.number == s.number)) refl e
  where
    by_test : (b : Bool) → ((t.at == at) && (t.number == s.number)) ≡ b → cond b (Some t.leads) None ≡ Some n → IsKnown s at n (Some t)
    by_test true h e =
        let parts = and_parts (t.at == at) (t.number == s.number) h in
        record { detour = t; is = refl; here = eqb-true t.at at parts.0; number = eqb-true t.number s.number parts.1; leads = cc }
    by_test false h e = absurd (let z : ⊥ = cc in z)

-- where a way leads whose end is known
shortcut_at : (blocks : List Nest) (lines : List NumberedLine) (ds : List Detour) (s : Course) (at n : ℕ) → AreDetours 0 blocks lines ds → s.skipping ≡ 0 → s.left < length blocks → IsKnown s at n (slice_get ds (length blocks - suc s.left)) → n ≡ reach blocks s (drop at lines)
shortcut_at blocks lines ds s at n d whole inner k =
    let m = length blocks - s.left in
    let own : IsDetour (take (suc (0 + (length blocks - suc s.left))) blocks) lines k.detour = there blocks lines 0 (length blocks - suc s.left) ds k.detour d k.is in
    let far : suc (0 + (length blocks - suc s.left)) ≡ m = omega arith in
    let all : take (m + s.left) blocks ≡ blocks = take_all (m + s.left) blocks (omega arith) in
    let own' : k.detour.leads ≡ reach (take m blocks) (way 0 0 k.detour.number) (drop k.detour.at lines) = subst (λ i. IsDetour (take i blocks) lines k.detour) far own in
    let out : reach (take (m + s.left) blocks) (way 0 s.left s.number) (drop at lines) ≡ reach (take m blocks) (way 0 0 s.number) (drop at lines) = outside blocks m s.left s.number (drop at lines) (omega arith) in
    let out' : reach blocks (way 0 s.left s.number) (drop at lines) ≡ reach (take m blocks) (way 0 0 s.number) (drop at lines) = subst (λ bs. reach bs (way 0 s.left s.number) (drop at lines) ≡ reach (take m blocks) (way 0 0 s.number) (drop at lines)) all out in
    let led : n ≡ reach (take m blocks) (way 0 0 s.number) (drop at lines) = sym k.leads ∙ rw (k.number, k.here) at own' in
    let same : reach blocks (way s.skipping s.left s.number) (drop at lines) ≡ reach blocks (way 0 s.left s.number) (drop at lines) = ap (λ i. reach blocks (way i s.left s.number) (drop at lines)) whole in
    led ∙ sym (same ∙ out')

pub shortcut_leads : (blocks : List Nest) (lines : List NumberedLine) (ds : List Detour) (s : Course) (at n : ℕ) → AreDetours 0 blocks lines ds → Some n ≡ shortcut blocks ds s at → n ≡ reach blocks s (drop at lines)
unfolding shortcut
shortcut_leads blocks lines ds s at n d e =
    by_test ((s.skipping == 0) && nat_lt s.left (length blocks)) refl (sym e)
  where
    by_test : (b : Bool) → ((s.skipping == 0) && nat_lt s.left (length blocks)) ≡ b → cond b (known_end s at (slice_get ds (length blocks - suc s.left))) None ≡ Some n → n ≡ reach blocks s (drop at lines)
    by_test true h e =
        let parts = and_parts (s.skipping == 0) (nat_lt s.left (length blocks)) h in
        shortcut_at blocks lines ds s at n d (eqb-true s.skipping 0 parts.0) (ltb-true s.left (length blocks) parts.1) (known s at n (slice_get ds (length blocks - suc s.left)) e)
    by_test false h e = absurd (let z : ⊥ = cc in z)

-- ---- the search for the end of a first branch

-- the search came to line k, at this depth and this number
pub record IsTurning (number from depth before k : ℕ) : Type 0 where
  pub deep : depth + from ≤ k
  pub near : before + 2 * from ≤ number + 2 * k

pub turning_more : (number from depth depth' before before' k : ℕ) (form : SceneLine) → IsTurning number from depth before k → depth' ≡ depth_after depth form → before' ≤ before + 2 → IsTurning number from depth' before' (k + 1)
turning_more number from depth depth' before before' k form t is few =
    let deep : depth_after depth form + from ≤ suc k = depth_less depth from k _ _ t.deep in
    record { deep = omega (arith, deep, is); near = omega (arith, t.near, few) }
