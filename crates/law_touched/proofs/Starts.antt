-- The starts of callbacks that two states offer alike.
use Rattle.std.proofs.Common.{if◌then◌else◌, ◌≡◌, ℕ, Bool, true, false, ◌==◌, ◌&&◌, nat_lt, length, Option, Some, None, option_map, refl}
use Rattle.std.specs.Option.{option_and_then}
use Rattle.wdf_base.specs.Meaning.{Meaning}
use Rattle.wdf_base.specs.declared.plan.Plan.{Plan}
use Rattle.wdf_base.specs.declared.ids.Handle.{Handle}
use Rattle.wdf_base.specs.declared.call.Callback.{Callback}
use Rattle.wdf_base.specs.declared.event.Event.{Event}
use Rattle.wdf_base.specs.Callbacks.{row_of}
use Rattle.wdf_model.specs.Ids.{cpu_of}
use Rattle.wdf_model.specs.Plans.{callback_irql}
use Rattle.wdf_model.specs.State.{State, declared_in, declares_in, handle_in, is_proper}
use Rattle.wdf_model.specs.parts.Cpus.{irql, stack_of}
use Rattle.wdf_model.specs.parts.Locks.{is_free_if_any, lock_of_callback}
use Rattle.wdf_model.specs.rules.Groups.{if_there, starts, starts_for}
use Rattle.wdf_model.specs.rules.Starts.{is_ready_for, level_fits, life_fits, may_start, rank_ready, rank_ready_for}
use Rattle.wdf_model.specs.rules.Steps.{is_cpu, may}
use Rattle.law_touched.proofs.Lists.{if_passes}

-- ---- one event

one_by : (b c : Bool) (d e : Event) → b ≡ c → d ≡ e → (if b then Some d else None) ≡ (if c then Some e else None)
one_by b c d e h k = λ i. if h i then Some (k i) else None

module _ {A : Type 0} (plan : Plan) (m : Meaning A) where
  -- what a state offers of a candidate
  abbrev pub if_may : State A → Option Event → Option Event
  if_may S o = if_passes (may plan m S) o

  pub one_alike : (S T : State A) (d e : Event) → may plan m S d ≡ may plan m T e → d ≡ e → if_may S (Some d) ≡ if_may T (Some e)
  one_alike S T d e h k = one_by (may plan m S d) (may plan m T e) d e h k

  pub mapped_alike : {X : Type 0} (S T : State A) (f g : X → Event) (o : Option X) → ((x : X) → o ≡ Some x → if_may S (Some (f x)) ≡ if_may T (Some (g x))) → if_may S (option_map f o) ≡ if_may T (option_map g o)
  mapped_alike S T f g None h = refl
  mapped_alike S T f g (Some x) h = h x refl

  pub chained_alike : {X : Type 0} (S T : State A) (f g : X → Option Event) (o : Option X) → ((x : X) → o ≡ Some x → if_may S (f x) ≡ if_may T (g x)) → if_may S (option_and_then f o) ≡ if_may T (option_and_then g o)
  chained_alike S T f g None h = refl
  chained_alike S T f g (Some x) h = h x refl

  pub there_alike : (S T : State A) (b : Bool) (d e : Event) → if_may S (Some d) ≡ if_may T (Some e) → if_may S (if_there b d) ≡ if_may T (if_there b e)
  there_alike S T true d e h = h
  there_alike S T false d e h = refl

  -- ---- a start

  -- the same frames are on a processor, and it has the same level
  abbrev pub SameOn : ℕ → State A → State A → Type 0
  SameOn cpu S T = (stack_of S.cpus cpu ≡ stack_of T.cpus cpu) × (irql S.cpus cpu ≡ irql T.cpus cpu)

  module _ (S T : State A) (cpu : ℕ) (tree : S.tree ≡ T.tree) (locks : S.locks ≡ T.locks) (on : SameOn cpu S T) where
    level : (n : ℕ) → level_fits S cpu n ≡ level_fits T cpu n
    level n = λ i. if n == 0 then length (on.0 i) == 0 else nat_lt (on.1 i) n

    start_may : (c : Callback) (o : ℕ) (r : Option Handle) → is_ready_for plan m S cpu c o r ≡ is_ready_for plan m T cpu c o r → may_start plan m S cpu c o r ≡ may_start plan m T cpu c o r
    start_may c o r ready = λ i.
        declares_in plan (record S { tree = tree i }) c o && life_fits (record S { tree = tree i }) c o && level (callback_irql plan c o) i
        && is_free_if_any (locks i) (lock_of_callback plan c o (declared_in plan (record S { tree = tree i }) o)) && ready i

    pub alone : (c : Callback) (o : ℕ) → rank_ready plan m S (row_of c).rank cpu c o ≡ rank_ready plan m T (row_of c).rank cpu c o
        → if_may S (Some (starts plan S cpu c o)) ≡ if_may T (Some (starts plan T cpu c o))
    alone c o ready =
        one_alike S T (starts plan S cpu c o) (starts plan T cpu c o)
        (λ i. is_cpu plan (cpu_of cpu) && is_proper plan (record S { tree = tree i }) (handle_in plan (record S { tree = tree i }) o) && true && start_may c o None ready i)
        (λ i. starts plan (record S { tree = tree i }) cpu c o)

    pub for_request : (c : Callback) (o r : ℕ) → rank_ready_for plan S (row_of c).rank c o r ≡ rank_ready_for plan T (row_of c).rank c o r
        → if_may S (Some (starts_for plan S cpu c o r)) ≡ if_may T (Some (starts_for plan T cpu c o r))
    for_request c o r ready =
        one_alike S T (starts_for plan S cpu c o r) (starts_for plan T cpu c o r)
        (λ i. is_cpu plan (cpu_of cpu) && is_proper plan (record S { tree = tree i }) (handle_in plan (record S { tree = tree i }) o)
        && is_proper plan (record S { tree = tree i }) (handle_in plan (record S { tree = tree i }) r) && start_may c o (Some (record { id = record { 0 = r }; name = 0 })) ready i)
        (λ i. starts_for plan (record S { tree = tree i }) cpu c o r)
