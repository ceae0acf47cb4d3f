-- What a request is that the driver has just made.
use Rattle.std.specs.Prelude.{◌≡◌, ℕ, false, None}
use Rattle.wdf_base.specs.declared.object.Kind.TheVariants as kind
use Rattle.wdf_base.specs.declared.object.Mark.TheVariants as mark
use Rattle.wdf_base.specs.declared.object.Place.TheVariants as place
use Rattle.wdf_base.specs.declared.object.RequestForm.TheVariants as form
use Rattle.wdf_model.specs.parts.Tree.{Tree, kind_of, nearest_device}
use Rattle.wdf_model.specs.parts.Requests.{Requests, info_of, is_cancelled, mark_of, origin_of, place_of}

-- Request r is one that the driver made: it is Owned, it came from no queue, its device is the nearest one above it. Its form is
-- control, its length and code are 0, and it is no arrival of an agent. It isn't marked or cancelled.
pub record IsNewRequest (T : Tree) (R : Requests) (r : ℕ) : Type 0 where
  pub kind : kind_of T r ≡ kind.Made
  pub place : place_of R r ≡ place.Owned
  pub origin : origin_of R r ≡ None
  pub device : (info_of R r).device.0 ≡ nearest_device T r
  pub form : (info_of R r).form ≡ form.Control
  pub length_0 : (info_of R r).length ≡ 0
  pub code : (info_of R r).code ≡ 0
  pub agent : (info_of R r).agent ≡ 0
  pub arrival : (info_of R r).arrival ≡ 0
  pub mark : mark_of R r ≡ mark.Unmarked
  pub fresh : is_cancelled R r ≡ false
