-- Places at which a request is not done.
use Rattle.std.proofs.Common.{◌≡◌, ℕ, true, false, refl, if◌then◌else◌, Bool}
use Rattle.wdf_base.specs.declared.object.Place.{Place}
use Rattle.wdf_base.specs.declared.object.Place.TheVariants as place
use Rattle.wdf_base.specs.declared.object.Mark.TheVariants as marks
use Rattle.wdf_base.specs.Places.{is_done, is_sent}
use Rattle.wdf_model.specs.parts.Requests.{is_in, with_mark}
use Rattle.wdf_model.specs.declared.entries.Request.{Request}

pub inside_undone : (q : ℕ) (p : Place) → is_in q p ≡ true → is_done p ≡ false
inside_undone q place.Done h = absurd (let z : ⊥ = cc in z)
inside_undone q _ h = refl

pub sent_undone : (p : Place) → is_sent p ≡ true → is_done p ≡ false
sent_undone (place.Sent t) h = refl
sent_undone _ h = absurd (let z : ⊥ = cc in z)

pub marked_place : (e : Request) (b : Bool) → (if b then e else with_mark marks.Marked e).place ≡ e.place
marked_place e true = refl
marked_place e false = refl

pub unmarked_place : (e : Request) (b : Bool) → (if b then with_mark marks.Unmarked e else e).place ≡ e.place
unmarked_place e true = refl
unmarked_place e false = refl
