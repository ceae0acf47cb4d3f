-- The levels that frames hold, after a level more, a level less, and without those of a frame.
use Rattle.std.proofs.Common.{if◌then◌else◌, ◌≡◌, ◌≢◌, ℕ, zero, suc, ◌+◌, ◌-◌, ◌==◌, ◌&&◌, Bool, true, false, not, List, [], ◌∷◌, ◌++◌, ◌<◌, ◌≤◌, inl, inr, Option, Some, None, length, get_or, take, drop, filter, map, refl, ap, sym, ◌∙◌, arith, length-append}
use Rattle.std.specs.Int.{from_bool}
use Rattle.std.specs.List.{remove}
use Rattle.std.specs.Option.{IsSome, OnSome}
use Rattle.std.specs.Prelude.{◌↔◌}
use Rattle.std.proofs.lemmas.List.{append-nil, length-map, map-append, take_all, take-append-drop}
use Rattle.std.proofs.lemmas.List.Elements.{filter-append, filter_more}
use Rattle.std.proofs.lemmas.List.Sums.{count_by-le-length, length-filter}
use Rattle.std.proofs.lemmas.Bool.{cases_lt, eqb-true}
use Rattle.wdf_model.proofs.Tests.{both_left}
use Rattle.wdf_model.specs.declared.entries.HeldLevel.{HeldLevel}
use Rattle.wdf_model.specs.Tables.{contains, entry, flag, put}
use Rattle.wdf_model.specs.parts.Cpus.{less_one}
use Rattle.wdf_model.proofs.Maps.{entry_put_other, entry_put_same}
use Rattle.wdf_model.proofs.Counts.{equal, not_equal, one_or_two}
use Rattle.wdf_cpu.specs.Levels.{held_by}
use Rattle.wdf_cpu.specs.LevelCounts.{CountsLevels}

-- whether it is this level of this frame
abbrev pub is_level : ℕ → ℕ → HeldLevel → Bool
is_level f level l = (l.frame.0 == f) && (l.level.0 == level)

-- the levels of all frames but one
abbrev pub of_others : ℕ → List HeldLevel → List HeldLevel
of_others f ls = filter (λ (l : HeldLevel). not (l.frame.0 == f)) ls

-- ---- those that a frame holds, after an act

pub held_more : (f level : ℕ) (ls : List HeldLevel) (x : ℕ) (b : Bool) → (f == x) ≡ b → held_by (record { frame = record { 0 = f }; level = record { 0 = level } } ∷ ls) x ≡ (if b then level ∷ held_by ls x else held_by ls x)
held_more f level ls x true e = rw e refl
held_more f level ls x false e = rw e refl

kept_cons : (x : ℕ) (l : HeldLevel) (ls ms : List HeldLevel) (b : Bool) → (l.frame.0 == x) ≡ b → held_by ls x ≡ held_by ms x → held_by (l ∷ ls) x ≡ held_by (l ∷ ms) x
kept_cons x l ls ms true e same = rw e (ap (λ ns. l.level.0 ∷ ns) same)
kept_cons x l ls ms false e same = rw e same

gone_cons : (x : ℕ) (l : HeldLevel) (ls : List HeldLevel) → (l.frame.0 == x) ≡ false → held_by (l ∷ ls) x ≡ held_by ls x
gone_cons x l ls e = rw e refl

-- a level of one frame isn't one of another
apart : (l : HeldLevel) (f x : ℕ) → x ≢ f → (l.frame.0 == f) ≡ true → (l.frame.0 == x) ≡ false
apart l f x n is = not_equal l.frame.0 x (λ e. n (sym e ∙ eqb-true l.frame.0 f is))

less_one_keeps_at : (f level x : ℕ) (l : HeldLevel) (ls : List HeldLevel) (b : Bool) → x ≢ f → is_level f level l ≡ b → held_by (less_one f level ls) x ≡ held_by ls x → held_by (less_one f level (l ∷ ls)) x ≡ held_by (l ∷ ls) x
less_one_keeps_at f level x l ls true n e rest = rw e (sym (gone_cons x l ls (apart l f x n (both_left (l.frame.0 == f) (l.level.0 == level) e))))
less_one_keeps_at f level x l ls false n e rest = rw e (kept_cons x l (less_one f level ls) ls (l.frame.0 == x) refl rest)

pub less_one_keeps : (f level x : ℕ) (ls : List HeldLevel) → x ≢ f → held_by (less_one f level ls) x ≡ held_by ls x
less_one_keeps f level x [] n = refl
less_one_keeps f level x (l ∷ ls) n = less_one_keeps_at f level x l ls (is_level f level l) n refl (less_one_keeps f level x ls n)

forgotten_at : (f : ℕ) (l : HeldLevel) (ls : List HeldLevel) (b : Bool) → (l.frame.0 == f) ≡ b → held_by (filter (λ (m : HeldLevel). not (m.frame.0 == f)) ls) f ≡ [] → held_by (filter (λ (m : HeldLevel). not (m.frame.0 == f)) (l ∷ ls)) f ≡ []
forgotten_at f l ls true e rest = rw e rest
forgotten_at f l ls false e rest = rw (e, e) rest

pub forgotten : (f : ℕ) (ls : List HeldLevel) → held_by (filter (λ (m : HeldLevel). not (m.frame.0 == f)) ls) f ≡ []
forgotten f [] = refl
forgotten f (l ∷ ls) = forgotten_at f l ls (l.frame.0 == f) refl (forgotten f ls)

others_kept_at : (f x : ℕ) (l : HeldLevel) (ls : List HeldLevel) (b : Bool) → x ≢ f → (l.frame.0 == f) ≡ b → held_by (filter (λ (m : HeldLevel). not (m.frame.0 == f)) ls) x ≡ held_by ls x → held_by (filter (λ (m : HeldLevel). not (m.frame.0 == f)) (l ∷ ls)) x ≡ held_by (l ∷ ls) x
others_kept_at f x l ls true n e rest = rw e (rest ∙ sym (gone_cons x l ls (apart l f x n e)))
others_kept_at f x l ls false n e rest = rw e (kept_cons x l (filter (λ (m : HeldLevel). not (m.frame.0 == f)) ls) ls (l.frame.0 == x) refl rest)

pub others_kept : (f x : ℕ) (ls : List HeldLevel) → x ≢ f → held_by (filter (λ (m : HeldLevel). not (m.frame.0 == f)) ls) x ≡ held_by ls x
others_kept f x [] n = refl
others_kept f x (l ∷ ls) n = others_kept_at f x l ls (l.frame.0 == f) n refl (others_kept f x ls n)

-- ---- place by place

held_by_more : (ls : List HeldLevel) (place f : ℕ) (d : HeldLevel) (b : Bool) → place < length ls → ((get_or ls place d).frame.0 == f) ≡ b
    → held_by (take (place + 1) ls) f ≡ held_by (take place ls) f ++ (if b then (get_or ls place d).level.0 ∷ [] else [])
held_by_more ls place f d b within is =
    ap (map (λ (m : HeldLevel). m.level.0)) (filter_more (λ (m : HeldLevel). m.frame.0 == f) ls place d within)
    ∙ map-append (λ (m : HeldLevel). m.level.0) (filter (λ (m : HeldLevel). m.frame.0 == f) (take place ls)) (if (get_or ls place d).frame.0 == f then get_or ls place d ∷ [] else [])
    ∙ ap (λ ns. held_by (take place ls) f ++ ns) (last_level (get_or ls place d) ((get_or ls place d).frame.0 == f) ∙ ap (λ c. if c then (get_or ls place d).level.0 ∷ [] else []) is)
  where
    last_level : (l : HeldLevel) (c : Bool) → map (λ (m : HeldLevel). m.level.0) (if c then l ∷ [] else []) ≡ (if c then l.level.0 ∷ [] else [])
    last_level l true = refl
    last_level l false = refl

-- a level of the frame is one more
pub held_by_yes : (ls : List HeldLevel) (place f : ℕ) (d : HeldLevel) → place < length ls → (get_or ls place d).frame.0 ≡ f
    → held_by (take (place + 1) ls) f ≡ held_by (take place ls) f ++ (get_or ls place d).level.0 ∷ []
held_by_yes ls place f d within is = held_by_more ls place f d true within (equal (get_or ls place d).frame.0 f is)

-- a level of another frame isn't
pub held_by_no : (ls : List HeldLevel) (place f : ℕ) (d : HeldLevel) → place < length ls → (get_or ls place d).frame.0 ≢ f
    → held_by (take (place + 1) ls) f ≡ held_by (take place ls) f
held_by_no ls place f d within is = held_by_more ls place f d false within (not_equal (get_or ls place d).frame.0 f is) ∙ append-nil (held_by (take place ls) f)

-- those before a place and from it on
held_by_both : (ls ms : List HeldLevel) (f : ℕ) → held_by (ls ++ ms) f ≡ held_by ls f ++ held_by ms f
held_by_both ls ms f =
    ap (map (λ (m : HeldLevel). m.level.0)) (filter-append (λ (m : HeldLevel). m.frame.0 == f) ls ms)
    ∙ map-append (λ (m : HeldLevel). m.level.0) (filter (λ (m : HeldLevel). m.frame.0 == f) ls) (filter (λ (m : HeldLevel). m.frame.0 == f) ms)

short_end : (xs ys : List ℕ) → length (xs ++ ys) ≡ length xs → xs ++ ys ≡ xs
short_end xs [] h = append-nil xs
short_end xs (y ∷ ys) h = absurd (let e = length-append xs (y ∷ ys) in omega arith)

-- where as many as all were met, all were
pub held_by_all : (ls : List HeldLevel) (place f : ℕ) → length (held_by (take place ls) f) ≡ length (held_by ls f) → held_by (take place ls) f ≡ held_by ls f
held_by_all ls place f h =
    let both : held_by ls f ≡ held_by (take place ls) f ++ held_by (drop place ls) f = ap (λ ms. held_by ms f) (sym (take-append-drop place ls)) ∙ held_by_both (take place ls) (drop place ls) f in
    sym (both ∙ short_end (held_by (take place ls) f) (held_by (drop place ls) f) (ap length (sym both) ∙ sym h))

-- where there are more, the place is within
pub more_within : (ls : List HeldLevel) (place f : ℕ) → length (held_by (take place ls) f) < length (held_by ls f) → place < length ls
more_within ls place f h = elim (cases_lt place (length ls)) [
  | inl e ↦ e
  | inr past ↦ absurd (let same = ap (λ ms. length (held_by ms f)) (take_all place ls (omega arith)) in omega arith)
]

-- no frame holds more levels than there are
pub few_held : (ls : List HeldLevel) (f : ℕ) → length (held_by ls f) ≤ length ls
few_held ls f =
    let a = length-map (filter (λ (m : HeldLevel). m.frame.0 == f) ls) (λ (m : HeldLevel). m.level.0) in
    let b = length-filter (λ (m : HeldLevel). m.frame.0 == f) ls in
    let c = count_by-le-length (λ (m : HeldLevel). m.frame.0 == f) ls in
    omega arith

-- ---- a level goes

pub take_removed : (ls : List HeldLevel) (place : ℕ) → place < length ls → take place (remove ls place) ≡ take place ls
take_removed [] place h = absurd (omega arith)
take_removed (l ∷ ls) zero h = refl
take_removed (l ∷ ls) (suc place) h = ap (λ ms. l ∷ ms) (take_removed ls place (omega arith))

-- a level of the frame is one less
pub shorter : (f : ℕ) (ls : List HeldLevel) (place : ℕ) (d : HeldLevel) → place < length ls → (get_or ls place d).frame.0 ≡ f → length (held_by (remove ls place) f) + 1 ≡ length (held_by ls f)
shorter f [] place d h is = absurd (omega arith)
shorter f (l ∷ ls) zero d h is = rw (equal l.frame.0 f is) (omega arith)
shorter f (l ∷ ls) (suc place) d h is = by_head l (l.frame.0 == f) refl (shorter f ls place d (omega arith) is)
  where
    by_head : (l : HeldLevel) (b : Bool) → (l.frame.0 == f) ≡ b → length (held_by (remove ls place) f) + 1 ≡ length (held_by ls f) → length (held_by (l ∷ remove ls place) f) + 1 ≡ length (held_by (l ∷ ls) f)
    by_head l true e rest = rw e (omega arith)
    by_head l false e rest = rw e rest

-- and nothing of the others
pub others_stay : (f : ℕ) (ls : List HeldLevel) (place : ℕ) (d : HeldLevel) → place < length ls → (get_or ls place d).frame.0 ≡ f → of_others f (remove ls place) ≡ of_others f ls
others_stay f [] place d h is = absurd (omega arith)
others_stay f (l ∷ ls) zero d h is = rw (equal l.frame.0 f is) refl
others_stay f (l ∷ ls) (suc place) d h is = by_head l (l.frame.0 == f) refl (others_stay f ls place d (omega arith) is)
  where
    by_head : (l : HeldLevel) (b : Bool) → (l.frame.0 == f) ≡ b → of_others f (remove ls place) ≡ of_others f ls → of_others f (l ∷ remove ls place) ≡ of_others f (l ∷ ls)
    by_head l true e rest = rw e rest
    by_head l false e rest = rw e (ap (λ ms. l ∷ ms) rest)

-- where the frame holds none, all are of others
pub all_others : (f : ℕ) (ls : List HeldLevel) → length (held_by ls f) ≡ 0 → ls ≡ of_others f ls
all_others f [] h = refl
all_others f (l ∷ ls) h = by_head (l.frame.0 == f) refl h (all_others f ls)
  where
    by_head : (b : Bool) → (l.frame.0 == f) ≡ b → length (held_by (l ∷ ls) f) ≡ 0 → (length (held_by ls f) ≡ 0 → ls ≡ of_others f ls) → l ∷ ls ≡ of_others f (l ∷ ls)
    by_head true e h rest = absurd (let z : length (l.level.0 ∷ held_by ls f) ≡ 0 = rw e at h in omega arith)
    by_head false e h rest = rw e (ap (λ ms. l ∷ ms) (rest (rw e at h)))

-- ---- the first of a level goes

level_of : (f level : ℕ) (l : HeldLevel) → l.frame.0 ≡ f → l.level.0 ≡ level → is_level f level l ≡ true
level_of f level l a b = rw (equal l.frame.0 f a) (equal l.level.0 level b)

-- a level that isn't the one, before the others
head_passes : (f level : ℕ) (l : HeldLevel) (ns : List ℕ) (ms : List HeldLevel) (b : Bool) → (l.frame.0 == f) ≡ b → contains level (held_by (l ∷ ms) f) ≡ false → (is_level f level l ≡ false) × (contains level (held_by ms f) ≡ false)
head_passes f level l ns ms true e h = rw e (level_passes (l.level.0 == level) refl (rw e at h))
  where
    level_passes : (c : Bool) → (l.level.0 == level) ≡ c → contains level (l.level.0 ∷ held_by ms f) ≡ false → ((l.level.0 == level) ≡ false) × (contains level (held_by ms f) ≡ false)
    level_passes true k h = absurd (let z : true ≡ false = rw k at h in let y : ⊥ = cc in y)
    level_passes false k h = (k, rw k at h)
head_passes f level l ns ms false e h = rw e (refl, rw e at h)

-- it is at the place where it is met first
pub less_one_at : (f level : ℕ) (ls : List HeldLevel) (place : ℕ) (d : HeldLevel) → place < length ls → (get_or ls place d).frame.0 ≡ f → (get_or ls place d).level.0 ≡ level
    → contains level (held_by (take place ls) f) ≡ false → remove ls place ≡ less_one f level ls
less_one_at f level [] place d h a b before = absurd (omega arith)
less_one_at f level (l ∷ ls) zero d h a b before = rw (level_of f level l a b) refl
less_one_at f level (l ∷ ls) (suc place) d h a b before =
    let passes = head_passes f level l [] (take place ls) (l.frame.0 == f) refl before in
    rw passes.0 (ap (λ ms. l ∷ ms) (less_one_at f level ls place d (omega arith) a b passes.1))

-- where there is none, nothing goes
pub less_one_none : (f level : ℕ) (ls : List HeldLevel) → contains level (held_by ls f) ≡ false → ls ≡ less_one f level ls
less_one_none f level [] before = refl
less_one_none f level (l ∷ ls) before =
    let passes = head_passes f level l [] ls (l.frame.0 == f) refl before in
    rw passes.0 (ap (λ ms. l ∷ ms) (less_one_none f level ls passes.1))

-- ---- what was met

-- a level that isn't the one, after those that aren't
pub unmet : (level n : ℕ) (ns : List ℕ) → contains level ns ≡ false → n ≢ level → contains level (ns ++ n ∷ []) ≡ false
unmet level n [] h d = rw (not_equal n level d) refl
unmet level n (m ∷ ns) h d = by_head (m == level) refl h (λ k. unmet level n ns k d)
  where
    by_head : (b : Bool) → (m == level) ≡ b → contains level (m ∷ ns) ≡ false → (contains level ns ≡ false → contains level (ns ++ n ∷ []) ≡ false) → contains level ((m ∷ ns) ++ n ∷ []) ≡ false
    by_head true e h rest = absurd (let z : true ≡ false = rw e at h in let y : ⊥ = cc in y)
    by_head false e h rest = rw e (rest (rw e at h))

-- what is at a place within is removed
pub removed_there : (place len : ℕ) (old new : List HeldLevel) (r : Option HeldLevel) → len ≡ length old → place < length old
    → OnSome r (new ≡ remove old place) → (IsSome r ↔ (place < len)) → new ≡ remove old place
removed_there place len old new (Some l) many within removed there = removed
removed_there place len old new None many within removed there = absurd (let z : IsSome {T = HeldLevel} None = there.1 (omega arith) in let y : ⊥ = cc in y)

-- ---- the counts

pub one_taken : (count from left : ℕ) (b : Bool) → from ≡ from_bool b → left + flag b ≡ count → count - from ≡ left
one_taken count from left true is h = let one : from ≡ 1 = is in omega arith
one_taken count from left false is h = let none : from ≡ 0 = is in omega arith

pub counts_follow_one : (ls ms : List HeldLevel) (counts : List ℕ) (f n : ℕ) → n ≡ length (held_by ms f) → ((x : ℕ) → x ≢ f → length (held_by ms x) ≡ length (held_by ls x)) → CountsLevels ls counts → CountsLevels ms (put 0 counts f n)
counts_follow_one ls ms counts f n here others h = record {
  counted = λ x. elim (one_or_two x f) [
    | inl e ↦ ap (entry 0 (put 0 counts f n)) e ∙ entry_put_same 0 counts f n ∙ here ∙ ap (λ y. length (held_by ms y)) (sym e)
    | inr d ↦ entry_put_other 0 counts f x n d ∙ h.counted x ∙ sym (others x d)
  ];
}

pub counts_raise : (ls : List HeldLevel) (counts : List ℕ) (f level : ℕ) → CountsLevels ls counts
    → CountsLevels (record { frame = record { 0 = f }; level = record { 0 = level } } ∷ ls) (put 0 counts f (length (held_by ls f) + 1))
counts_raise ls counts f level h =
    counts_follow_one ls (record { frame = record { 0 = f }; level = record { 0 = level } } ∷ ls) counts f (length (held_by ls f) + 1)
    (let e = ap length (held_more f level ls f true (equal f f refl)) in omega arith)
    (λ x n. ap length (held_more f level ls x false (not_equal f x (λ e. n (sym e)))))
    h

pub counts_lower : (ls : List HeldLevel) (counts : List ℕ) (f level n : ℕ) → n ≡ length (held_by (less_one f level ls) f) → CountsLevels ls counts → CountsLevels (less_one f level ls) (put 0 counts f n)
counts_lower ls counts f level n is h = counts_follow_one ls (less_one f level ls) counts f n is (λ x d. ap length (less_one_keeps f level x ls d)) h

pub counts_forget : (ls : List HeldLevel) (counts : List ℕ) (f : ℕ) → CountsLevels ls counts → CountsLevels (of_others f ls) (put 0 counts f 0)
counts_forget ls counts f h = counts_follow_one ls (of_others f ls) counts f 0 (sym (ap length (forgotten f ls))) (λ x d. ap length (others_kept f x ls d)) h
