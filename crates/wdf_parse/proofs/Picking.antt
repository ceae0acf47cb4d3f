-- A pick is added to the last line.
use Rattle.std.proofs.Common.{◌≡◌, ℕ, suc, ◌+◌, ◌-◌, ◌<◌, List, [], ◌∷◌, ◌++◌, map, length, take, get_or, slice_get, Some, refl, ap, ◌∙◌, sym, arith, add-one, length-append}
use Rattle.std.proofs.lemmas.List.{map-append}
use Rattle.std.proofs.Math.Seq.{take-suc}
use Rattle.wdf_scene.specs.Change.{changed_at}
use Rattle.wdf_scene.specs.declared.line.NumberedLine.{NumberedLine}
use Rattle.wdf_scene.specs.declared.line.SceneLine.{SceneLine}
use Rattle.wdf_scene.specs.declared.line.SceneLine.TheVariants as line
use Rattle.wdf_scene.specs.declared.scene.Scene.{Scene}
use Rattle.wdf_scene.specs.Scene.{EndsInPicks, last_line, last_picks, line_picks, line_with_pick, with_pick}
use Rattle.wdf_tokens.specs.declared.token.Token.{Token}
use Rattle.wdf_scene_lines.specs.Reading.{number_in}
use Rattle.wdf_parse.specs.Picking.{with_line}

last_at : {T : Type 0} (xs : List T) (x : T) → slice_get (xs ++ x ∷ []) (length xs) ≡ Some x
last_at [] x = refl
last_at (y ∷ ys) x = last_at ys x

changed_last : {T : Type 0} (f : T → T) (xs : List T) (x : T) → changed_at f (length xs) (xs ++ x ∷ []) ≡ xs ++ f x ∷ []
changed_last f [] x = refl
changed_last f (y ∷ ys) x = ap (λ zs. y ∷ zs) (changed_last f ys x)

last_place : {T : Type 0} (xs : List T) (x : T) → length (xs ++ x ∷ []) - 1 ≡ length xs
last_place xs x = omega (arith, length-append xs (x ∷ []))

pub last_line_is : (s : Scene) (number : ℕ) (form : SceneLine) (ns : List ℕ) → last_line (with_line s number form ns) ≡ Some (record { number = number; form = form; picks = ns })
last_line_is s number form ns =
    let x : NumberedLine = record { number = number; form = form; picks = ns } in
    ap (λ k. slice_get (s.lines ++ x ∷ []) k) (last_place s.lines x) ∙ last_at s.lines x

pub ends_in_picks : (s : Scene) (number : ℕ) (ns : List ℕ) → EndsInPicks (with_line s number line.Picks ns)
ends_in_picks s number ns = rw (last_line_is s number line.Picks ns) refl

pub last_picks_are : (s : Scene) (number : ℕ) (ns : List ℕ) → last_picks (with_line s number line.Picks ns) ≡ ns
last_picks_are s number ns = ap line_picks (last_line_is s number line.Picks ns)

pub with_pick_more : (s : Scene) (number k : ℕ) (form : SceneLine) (ns : List ℕ) → with_pick (with_line s number form ns) k ≡ with_line s number form (ns ++ k ∷ [])
with_pick_more s number k form ns =
    let x : NumberedLine = record { number = number; form = form; picks = ns } in
    ap (λ (ls : List NumberedLine). record s { lines = ls })
    (ap (λ n. changed_at (line_with_pick k) n (s.lines ++ x ∷ [])) (last_place s.lines x) ∙ changed_last (line_with_pick k) s.lines x)

-- one more number is picked
pub picks_next : (ts : List Token) (i : ℕ) (t : Token) → i < length ts → t ≡ get_or ts i t → map number_in (take (i + 1) ts) ≡ map number_in (take i ts) ++ number_in t ∷ []
picks_next ts i t inside is =
    ap (λ n. map number_in (take n ts)) (add-one i)
    ∙ ap (map number_in) (take-suc ts i t inside)
    ∙ map-append number_in (take i ts) (get_or ts i t ∷ [])
    ∙ ap (λ x. map number_in (take i ts) ++ number_in x ∷ []) (sym is)
