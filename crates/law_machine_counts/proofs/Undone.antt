-- Places at which a request is not done.
use Rattle.std.proofs.Common.{◌≡◌, ℕ, Bool, true, false, refl}
use Rattle.wdf_base.specs.declared.object.Place.{Place}
use Rattle.wdf_base.specs.declared.object.Place.TheVariants as place
use Rattle.wdf_base.specs.declared.value.Status.{Status}
use Rattle.wdf_base.specs.Places.{is_done, is_queued_in, is_returning_to, is_sent}
use Rattle.wdf_model.specs.State.{held_at}
use Rattle.wdf_model.specs.rules.Deeds.{finished_at}

pub held_undone : (forgotten : Bool) (p : Place) → held_at forgotten p ≡ true → is_done p ≡ false
held_undone forgotten place.Done h = absurd (let z : ⊥ = cc in z)
held_undone forgotten _ h = refl

pub queued_undone : (q : ℕ) (p : Place) → is_queued_in q p ≡ true → is_done p ≡ false
queued_undone q place.Done h = absurd (let z : ⊥ = cc in z)
queued_undone q _ h = refl

pub returning_undone : (q : ℕ) (p : Place) → is_returning_to q p ≡ true → is_done p ≡ false
returning_undone q place.Done h = absurd (let z : ⊥ = cc in z)
returning_undone q _ h = refl

pub finished_undone : (b : Bool) (s : Status) (p : Place) → is_sent p ≡ true → is_done (finished_at b s p) ≡ false
finished_undone true s p h = refl
finished_undone false s (place.Sent t) h = refl
finished_undone false s (place.Queued q) h = refl
finished_undone false s (place.Returning q) h = refl
finished_undone false s (place.Closing c) h = refl
finished_undone false s place.Owned h = refl
finished_undone false s place.Done h = absurd (let z : ⊥ = cc in z)
