-- Lives of objects, and what the start of a callback notes.
use Rattle.std.proofs.Common.{◌≡◌, refl, true, false}
use Rattle.wdf_base.specs.declared.call.Callback.{Callback}
use Rattle.wdf_base.specs.declared.call.Callback.TheVariants as callback
use Rattle.wdf_base.specs.declared.object.Life.{Life}
use Rattle.wdf_base.specs.declared.object.Life.TheVariants as life
use Rattle.wdf_base.specs.Lives.{is_asked, is_cleaned, is_gone, is_live, is_past_cleanup}
use Rattle.wdf_model.specs.declared.entries.Node.{Node}
use Rattle.wdf_model.specs.parts.Tree.{noted}

pub noted_kept : (c : Callback) (n : Node) → ((noted c n).life ≡ n.life) × ((noted c n).parent.0 ≡ n.parent.0)
noted_kept callback.EvtCleanupCallback n = (refl, refl)
noted_kept callback.EvtDestroyCallback n = (refl, refl)
noted_kept _ n = (refl, refl)

pub noted_life : (c : Callback) (n : Node) → (noted c n).life ≡ n.life
noted_life callback.EvtCleanupCallback n = refl
noted_life callback.EvtDestroyCallback n = refl
noted_life _ n = refl

pub noted_same : (c : Callback) (n : Node) → ((noted c n).life ≡ n.life) × ((noted c n).kind ≡ n.kind) × ((noted c n).class ≡ n.class)
noted_same callback.EvtCleanupCallback n = (refl, refl, refl)
noted_same callback.EvtDestroyCallback n = (refl, refl, refl)
noted_same _ n = (refl, refl, refl)

pub asked_early : (l : Life) → is_asked l ≡ true → is_past_cleanup l ≡ false
asked_early life.Asked h = refl
asked_early life.Live h = refl
asked_early life.Cleaned h = absurd (let z : ⊥ = cc in z)
asked_early life.Gone h = absurd (let z : ⊥ = cc in z)

pub live_early : (l : Life) → is_live l ≡ true → is_past_cleanup l ≡ false
live_early life.Live h = refl
live_early life.Asked h = refl
live_early life.Cleaned h = absurd (let z : ⊥ = cc in z)
live_early life.Gone h = absurd (let z : ⊥ = cc in z)

pub asked_off : (l : Life) → is_asked l ≡ true → false ≡ is_live l
asked_off life.Live h = absurd (let z : ⊥ = cc in z)
asked_off _ h = refl

pub cleaned_off : (l : Life) → is_cleaned l ≡ true → false ≡ is_live l
cleaned_off life.Live h = absurd (let z : ⊥ = cc in z)
cleaned_off _ h = refl

pub early_there : (l : Life) → is_past_cleanup l ≡ false → is_gone l ≡ false
early_there life.Live h = refl
early_there life.Asked h = refl
early_there life.Cleaned h = absurd (let z : ⊥ = cc in z)
early_there life.Gone h = absurd (let z : ⊥ = cc in z)
