-- The wait list of a run, in one walk.
use Rattle.std.proofs.Common.{ℕ, zero, suc, ◌≡◌, ◌+◌, ◌<◌, MatchOption, List, [], ◌∷◌, ◌++◌, Option, Some, None, IsSome, drop, length, slice_get, take, refl, sym, ap, subst, ◌∙◌, arith}
use Rattle.std.proofs.lemmas.List.{length-drop, take_more}
use Rattle.std.proofs.lemmas.Option.{slice_get_within, get_or_from_slice_get}
use Rattle.wdf_base.specs.Meaning.{Meaning}
use Rattle.wdf_base.specs.declared.event.Event.{Event}
use Rattle.wdf_base.specs.declared.event.Ending.{Ending}
use Rattle.wdf_base.specs.declared.event.Ending.TheVariants as ending
use Rattle.wdf_base.specs.declared.plan.Plan.{Plan}
use Rattle.wdf_base.specs.declared.wait.WaitLine.{WaitLine}
use Rattle.wdf_model.specs.rules.Ready.{ending_of, state_after}
use Rattle.wdf_model.specs.rules.Waits.{if_stuck, wait_list}
use Rattle.wdf_waits.specs.Walks.{front, lines_at}
use Rattle.wdf_waits.specs.declared.walk.WaitPlace.{WaitPlace}
use Rattle.wdf_waits.proofs.OnWalks.{from_front}
use Rattle.wdf_core.specs.Walks.{waits_from}

-- from the front on it is whole
pub waits_at_front : {A : Type 0} (m : Meaning A) (plan : Plan) (journal : List Event) → waits_from plan m journal front ≡ wait_list plan m journal
unfolding wait_list
waits_at_front m plan journal = ap (if_stuck (ending_of plan m journal)) (from_front plan m (state_after plan m journal))

-- ---- the line at a place

some_lines : (e : Ending) (ls : List WaitLine) → 0 < length (if_stuck e ls) → 0 < length ls
some_lines ending.Stuck ls h = h
some_lines _ ls h = absurd (omega arith)

opens_by : (e : Ending) (ls rest : List WaitLine) (line : WaitLine) → 0 < length (if_stuck e ls) → ls ≡ line ∷ rest → if_stuck e ls ≡ line ∷ if_stuck e rest
opens_by ending.Stuck ls rest line h is = is
opens_by _ ls rest line h is = absurd (omega arith)

module _ {A : Type 0} (m : Meaning A) (plan : Plan) (journal : List Event) (place : WaitPlace) where
  -- what the walk in the state after these events found at the place
  abbrev pub Found : Option (WaitLine × WaitPlace) → Type 0
  Found o = MatchOption o (lines_at plan m (state_after plan m journal) place ≡ [])
      (λ found. lines_at plan m (state_after plan m journal) place ≡ found.0 ∷ lines_at plan m (state_after plan m journal) found.1)

  pub line_there : (o : Option (WaitLine × WaitPlace)) → Found o → 0 < length (waits_from plan m journal place) → IsSome o
  line_there (Some found) is some = refl
  line_there None none some =
      let left : 0 < length (lines_at plan m (state_after plan m journal) place) = some_lines (ending_of plan m journal) (lines_at plan m (state_after plan m journal) place) some in
      let nothing : length (lines_at plan m (state_after plan m journal) place) ≡ 0 = ap length none in
      absurd (omega arith)

  pub line_opens : (o : Option (WaitLine × WaitPlace)) (found : WaitLine × WaitPlace) → o ≡ Some found → Found o → 0 < length (waits_from plan m journal place)
      → waits_from plan m journal place ≡ found.0 ∷ waits_from plan m journal found.1
  line_opens o found is at some =
      opens_by (ending_of plan m journal) (lines_at plan m (state_after plan m journal) place) (lines_at plan m (state_after plan m journal) found.1) found.0 some (subst Found is at)

-- ---- a list, item by item

module _ {X : Type 0} where
  pub some_left : (xs left : List X) (k : ℕ) → left ≡ drop k xs → k < length xs → 0 < length left
  some_left xs left k is h = omega (arith, ap length is, length-drop k xs)

  pub item_at : (xs rest : List X) (k : ℕ) (x : X) → drop k xs ≡ x ∷ rest → slice_get xs k ≡ Some x
  item_at [] rest zero x h = absurd (let z : ⊥ = cc in z)
  item_at [] rest (suc k) x h = absurd (let z : ⊥ = cc in z)
  item_at (y ∷ ys) rest zero x h = let same : y ≡ x = cc in ap Some same
  item_at (y ∷ ys) rest (suc k) x h = item_at ys rest k x h

  left_after : (xs rest : List X) (k : ℕ) (x : X) → drop k xs ≡ x ∷ rest → rest ≡ drop (suc k) xs
  left_after [] rest zero x h = absurd (let z : ⊥ = cc in z)
  left_after [] rest (suc k) x h = absurd (let z : ⊥ = cc in z)
  left_after (y ∷ ys) rest zero x h = let same : ys ≡ rest = cc in sym same
  left_after (y ∷ ys) rest (suc k) x h = left_after ys rest k x h

  pub rest_left : (xs rest : List X) (k : ℕ) (x : X) → drop k xs ≡ x ∷ rest → rest ≡ drop (k + 1) xs
  rest_left xs rest k x h = let next : suc k ≡ k + 1 = omega arith in left_after xs rest k x h ∙ ap (λ n. drop n xs) next

  pub one_taken : (xs : List X) (k : ℕ) (x : X) → slice_get xs k ≡ Some x → take (k + 1) xs ≡ take k xs ++ x ∷ []
  one_taken xs k x at = take_more xs k x (slice_get_within xs k x at) ∙ ap (λ w. take k xs ++ w ∷ []) (get_or_from_slice_get xs k x x at)
