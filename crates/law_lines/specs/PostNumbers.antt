-- The numbers of a post fit 64 bits.
use Rattle.std.specs.Prelude.{◌^◌, ◌<◌, ⊤}
use Rattle.wdf_base.specs.declared.event.Action.{Action}
use Rattle.wdf_base.specs.declared.event.Action.TheVariants as action
use Rattle.wdf_base.specs.declared.event.Post.{Post}
use Rattle.wdf_base.specs.declared.event.Post.TheVariants as post

abbrev pub ActionNumbersFit : Action → Type 0
ActionNumbersFit (action.Set r n) = n < 2 ^ 64
ActionNumbersFit (action.Raise i) = ⊤
ActionNumbersFit (action.Lower i) = ⊤

abbrev pub PostNumbersFit : Post → Type 0
PostNumbersFit (post.Read d n) = n < 2 ^ 64
PostNumbersFit (post.Write d n) = n < 2 ^ 64
PostNumbersFit (post.Control d c n) = (c < 2 ^ 64) × (n < 2 ^ 64)
PostNumbersFit (post.Cancel k) = k < 2 ^ 64
PostNumbersFit (post.Ask a d) = ⊤
PostNumbersFit (post.Act a) = ActionNumbersFit a
PostNumbersFit (post.Done r s) = ⊤
