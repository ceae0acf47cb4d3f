-- The first three lines of a scene give its processors, its events and its objects.
use Rattle.std.proofs.Common.{◌≡◌, ℕ, true, false, List, [], ◌∷◌, map, Some, None, IsSomeAnd, IsTrue, refl, ap, cond, Bool}
use Rattle.wdf_scene.specs.declared.line.SceneLine.{SceneLine}
use Rattle.wdf_scene.specs.declared.line.SceneLine.TheVariants as line
use Rattle.wdf_scene.specs.declared.line.NumberedLine.{NumberedLine}
use Rattle.wdf_scene.specs.declared.scene.Scene.{Scene}
use Rattle.wdf_scene.specs.Blocks.{Position, front, moved, is_outside, after_lines, may_stand}
use Rattle.wdf_scene.specs.Written.{IsScene, lines_at}

-- the form of a line
abbrev pub form_of : NumberedLine → SceneLine
form_of l = l.form

-- the lines of a whole text from a position on
abbrev pub Ends : Position → List SceneLine → Type 0
Ends p forms = IsSomeAnd (after_lines (Some p) forms) (λ q. IsTrue (is_outside q))

lost : (forms : List SceneLine) → after_lines None forms ≡ None
lost [] = refl
lost (f ∷ fs) = lost fs

-- after a line that may not come there no text ends
gone : (forms : List SceneLine) → IsSomeAnd (after_lines None forms) (λ q. IsTrue (is_outside q)) → ⊥
gone forms h = rw (lost forms) at h

-- where a text goes on after a line, the line may come there
pub stood : (q : Position) (form : SceneLine) (forms : List SceneLine) (b : Bool) → may_stand q form ≡ b → IsSomeAnd (after_lines (cond b (Some (moved q form)) None) forms) (λ x. IsTrue (is_outside x)) → (may_stand q form ≡ true) × Ends (moved q form) forms
stood q form forms true e h = (e, h)
stood q form forms false e h = absurd (gone forms h)

-- the first line
record IsCpus (v : ℕ) (form : SceneLine) (forms : List SceneLine) : Type 0 where
  n : ℕ
  is : form ≡ line.Cpus n
  then : Ends (moved (front v) (line.Cpus n)) forms

cpus_first : (v : ℕ) (form : SceneLine) (forms : List SceneLine) → Ends (front v) (form ∷ forms) → IsCpus v form forms
cpus_first v (line.Cpus n) forms h = record { n = n; is = refl; then = h }
cpus_first v (line.Scope None) forms h = absurd (gone forms h)
cpus_first v (line.Scope (Some x)) forms h = absurd (gone forms h)
cpus_first v (line.Level None) forms h = absurd (gone forms h)
cpus_first v (line.Level (Some x)) forms h = absurd (gone forms h)
cpus_first v _ forms h = absurd (gone forms h)

-- the second
record IsLimit (v c : ℕ) (form : SceneLine) (forms : List SceneLine) : Type 0 where
  n : ℕ
  is : form ≡ line.Limit n
  then : Ends (moved (moved (front v) (line.Cpus c)) (line.Limit n)) forms

limit_second : (v c : ℕ) (form : SceneLine) (forms : List SceneLine) → Ends (moved (front v) (line.Cpus c)) (form ∷ forms) → IsLimit v c form forms
limit_second v c (line.Limit n) forms h = record { n = n; is = refl; then = h }
limit_second v c (line.Scope None) forms h = absurd (gone forms h)
limit_second v c (line.Scope (Some x)) forms h = absurd (gone forms h)
limit_second v c (line.Level None) forms h = absurd (gone forms h)
limit_second v c (line.Level (Some x)) forms h = absurd (gone forms h)
limit_second v c _ forms h = absurd (gone forms h)

-- the third
record IsObjects (v c m : ℕ) (form : SceneLine) (forms : List SceneLine) : Type 0 where
  n : ℕ
  is : form ≡ line.Objects n
  then : Ends (moved (moved (moved (front v) (line.Cpus c)) (line.Limit m)) (line.Objects n)) forms

objects_third : (v c m : ℕ) (form : SceneLine) (forms : List SceneLine) → Ends (moved (moved (front v) (line.Cpus c)) (line.Limit m)) (form ∷ forms) → IsObjects v c m form forms
objects_third v c m (line.Objects n) forms h = record { n = n; is = refl; then = h }
objects_third v c m (line.Scope None) forms h = absurd (gone forms h)
objects_third v c m (line.Scope (Some x)) forms h = absurd (gone forms h)
objects_third v c m (line.Level None) forms h = absurd (gone forms h)
objects_third v c m (line.Level (Some x)) forms h = absurd (gone forms h)
objects_third v c m _ forms h = absurd (gone forms h)

-- the first three lines, and those after them
pub record HasHead (v : ℕ) (lines : List NumberedLine) : Type 0 where
  pub first : NumberedLine
  pub second : NumberedLine
  pub third : NumberedLine
  pub rest : List NumberedLine
  pub cpus : ℕ
  pub limit : ℕ
  pub objects : ℕ
  pub are : lines ≡ first ∷ second ∷ third ∷ rest
  pub is_cpus : first.form ≡ line.Cpus cpus
  pub is_limit : second.form ≡ line.Limit limit
  pub is_objects : third.form ≡ line.Objects objects
  pub then : Ends (moved (moved (moved (front v) (line.Cpus cpus)) (line.Limit limit)) (line.Objects objects)) (map form_of rest)

head_of : (v : ℕ) (lines : List NumberedLine) → Ends (front v) (map form_of lines) → HasHead v lines
head_of v [] h = absurd (let e : false ≡ true = h in let z : ⊥ = cc in z)
head_of v (a ∷ []) h =
    let i = cpus_first v a.form [] h in
    absurd (let e : false ≡ true = i.then in let z : ⊥ = cc in z)
head_of v (a ∷ b ∷ []) h =
    let i = cpus_first v a.form (b.form ∷ []) h in
    let j = limit_second v i.n b.form [] i.then in
    absurd (let e : false ≡ true = j.then in let z : ⊥ = cc in z)
head_of v (a ∷ b ∷ c ∷ ls) h =
    let i = cpus_first v a.form (b.form ∷ c.form ∷ map form_of ls) h in
    let j = limit_second v i.n b.form (c.form ∷ map form_of ls) i.then in
    let k = objects_third v i.n j.n c.form (map form_of ls) j.then in
    record {
      first = a;
      second = b;
      third = c;
      rest = ls;
      cpus = i.n;
      limit = j.n;
      objects = k.n;
      are = refl;
      is_cpus = i.is;
      is_limit = j.is;
      is_objects = k.is;
      then = k.then;
    }

-- a scene has these three lines
pub scene_head : (scene : Scene) → IsScene scene → HasHead scene.version scene.lines
scene_head scene s =
    let lines : scene.lines ≡ lines_at 0 s.ws = ap (λ (x : Scene). x.lines) s.is in
    let whole : Ends (front scene.version) (map form_of (lines_at 0 s.ws)) = s.lines.whole in
    head_of scene.version scene.lines (rw lines whole)
