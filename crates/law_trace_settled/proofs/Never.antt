-- What can't be: each by itself, so that nothing else is looked at.
use Rattle.std.proofs.Common.{◌≡◌, ℕ, true, false, List, [], ◌∷◌, Option}
use Rattle.wdf_base.specs.declared.ids.Cpu.{Cpu}
use Rattle.wdf_base.specs.declared.ids.Handle.{Handle}
use Rattle.wdf_base.specs.declared.call.Callback.{Callback}
use Rattle.wdf_base.specs.declared.event.Event.TheVariants as event
use Rattle.wdf_base.specs.declared.event.Stage.{Stage}

pub not_so : false ≡ true → ⊥
not_so h = cc

pub not_such : true ≡ false → ⊥
not_such h = cc

pub not_empty : {T : Type 0} (x : T) (xs : List T) → [] ≡ x ∷ xs → ⊥
not_empty x xs h = cc

pub no_stage : (cpu : Cpu) (c : Callback) (o : Handle) (r : Option Handle) (n : Handle) (s : Stage) (j : Option Handle) → event.Start cpu c o r ≡ event.Stage n s j → ⊥
no_stage cpu c o r n s j h = cc

pub no_tick : (cpu : Cpu) (c : Callback) (o : Handle) (r : Option Handle) (time : ℕ) → event.Start cpu c o r ≡ event.Tick time → ⊥
no_tick cpu c o r time h = cc

pub no_stage_of_clock : (time : ℕ) (n : Handle) (s : Stage) (j : Option Handle) → event.Tick time ≡ event.Stage n s j → ⊥
no_stage_of_clock time n s j h = cc
