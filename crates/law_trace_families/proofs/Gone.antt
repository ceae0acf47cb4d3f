-- What is gone had its end, and what is past its cleanup had that: at each place of every run.
use Rattle.std.proofs.Common.{◌≡◌, ℕ, zero, suc, ◌+◌, ◌<◌, Bool, true, false, not, List, [], ◌∷◌, ◌++◌, ◌⊎◌, inl, inr, Some, length, map, slice_get, take, refl, sym, ap, subst, ◌∙◌, arith}
use Rattle.std.specs.List.{list_all}
use Rattle.std.proofs.lemmas.Bool.{cases_Bool}
use Rattle.wdf_base.specs.Meaning.{Meaning}
use Rattle.wdf_base.specs.declared.ids.Cpu.{Cpu}
use Rattle.wdf_base.specs.declared.plan.Plan.{Plan}
use Rattle.wdf_base.specs.declared.object.Life.{Life}
use Rattle.wdf_base.specs.declared.object.Life.TheVariants as life
use Rattle.wdf_base.specs.declared.call.Arg.{Arg}
use Rattle.wdf_base.specs.declared.call.Call.{Call}
use Rattle.wdf_base.specs.declared.call.CallKind.{CallKind}
use Rattle.wdf_base.specs.declared.call.CallKind.TheVariants as call
use Rattle.wdf_base.specs.declared.value.Value.{Value}
use Rattle.wdf_base.specs.declared.declared.Declared.{Declared}
use Rattle.wdf_base.specs.declared.event.Event.{Event}
use Rattle.wdf_base.specs.declared.event.Event.TheVariants as event
use Rattle.wdf_base.specs.declared.frame.Frame.{Frame}
use Rattle.wdf_base.specs.Plan.{declared_of}
use Rattle.wdf_base.specs.Lives.{is_cleaned, is_gone, is_past_cleanup}
use Rattle.wdf_model.specs.declared.entries.Node.{Node}
use Rattle.wdf_model.specs.Tables.{entry}
use Rattle.wdf_model.specs.parts.Tree.{Tree, declared_node, gone, life_of, opening_tree}
use Rattle.wdf_model.specs.parts.Cpus.{frame_of}
use Rattle.wdf_model.specs.State.{State}
use Rattle.wdf_model.specs.declared.deed.Deed.{Deed}
use Rattle.wdf_model.specs.declared.deed.Deed.TheVariants.{EndLife}
use Rattle.wdf_model.specs.rules.Deeds.{do_deed, do_deeds}
use Rattle.wdf_model.specs.rules.Steps.{after, deeds, did_deeds, may}
use Rattle.wdf_model.specs.rules.Ready.{IsRunOf, ready, state_after}
use Rattle.law_machine_base.specs.Fits.{all_fit, fits}
use Rattle.law_machine_base.specs.FactsOfEvents.{IsTick}
use Rattle.wdf_model.proofs.Runs.{along_run}
use Rattle.law_machine_base.proofs.Follows.{follows, state_goes_on}
use Rattle.wdf_model.proofs.Tests.{both, both_left, both_right, first, not_true, second}
use Rattle.wdf_model.proofs.Counts.{equal, one_or_two}
use Rattle.wdf_model.proofs.Maps.{entry_put_other}
use Rattle.law_machine_base.proofs.OwnEvents.{did_tells, waiting_tells}
use Rattle.law_machine_base.proofs.FitsOfEvents.{by_its_top, event_fits}
use Rattle.law_machine_lives.proofs.There.{Ends, StaysAt, deed_there}
use Rattle.wdf_laws.specs.declared.sign.Sign.{Sign}
use Rattle.wdf_laws.specs.declared.sign.Sign.TheVariants as sign
use Rattle.wdf_laws.specs.declared.sign.Told.{Told}
use Rattle.wdf_laws.specs.Family.{first_told}
use Rattle.wdf_laws.specs.Signs.{shows}
use Rattle.wdf_laws.specs.Words.{ever}
use Rattle.law_trace_once.proofs.Words.{ever_next}
use Rattle.law_trace_once.proofs.Cleanups.{seen_at_each}
use Rattle.law_trace_once.proofs.Ends.{ends}
use Rattle.law_trace_once.proofs.References.{waits_not}
use Rattle.law_trace_once.proofs.Uncounted.{event_none, is_counting, is_counting_event, none_counts}
use Rattle.law_trace_families.proofs.Families.{Family, Tells, declared_within, told_next}
use Rattle.law_trace_families.proofs.Telling.{Makes, event_makes}
use Rattle.std.proofs.lemmas.List.{take_all}

-- ---- deeds by which nothing ends

abbrev is_end : Deed → Bool
is_end (EndLife o) = true
is_end _ = false

abbrev none_ends : List Deed → Bool
none_ends ds = list_all (λ d. not (is_end d)) ds

ends_not : (d : Deed) (x : ℕ) → is_end d ≡ false → Ends d x → ⊥
ends_not (EndLife o) x h e = let z : ⊥ = cc in z
ends_not _ x h e = e

deeds_there : {A : Type 0} (plan : Plan) (ds : List Deed) (S : State A) (x : ℕ) → all_fit plan ds S ≡ true → none_ends ds ≡ true → is_gone (life_of S.tree x) ≡ false → is_gone (life_of (do_deeds plan ds S).tree x) ≡ false
deeds_there plan [] S x f n h = h
deeds_there plan (d ∷ ds) S x f n h =
    let fit : fits plan d S ≡ true = both_left (fits plan d S) (all_fit plan ds (do_deed plan d S)) f in
    let quiet : is_end d ≡ false = not_true (is_end d) (both_left (not (is_end d)) (none_ends ds) n) in
    let s : StaysAt S.tree (do_deed plan d S).tree x = deed_there plan d S fit x (ends_not d x quiet) h in
    deeds_there plan ds (do_deed plan d S) x (both_right (fits plan d S) (all_fit plan ds (do_deed plan d S)) f) (both_right (not (is_end d)) (none_ends ds) n) s.there

uncounted_stays : (d : Deed) → is_counting d ≡ false → not (is_end d) ≡ true
uncounted_stays (EndLife o) h = absurd (let z : ⊥ = cc in z)
uncounted_stays _ h = refl

no_end : (ds : List Deed) → none_counts ds ≡ true → none_ends ds ≡ true
no_end [] h = refl
no_end (d ∷ ds) h =
    both (not (is_end d)) (none_ends ds) (uncounted_stays d (not_true (is_counting d) (both_left (not (is_counting d)) (none_counts ds) h))) (no_end ds (both_right (not (is_counting d)) (none_counts ds) h))

-- ---- events by which nothing ends

quiet_there : {A : Type 0} (plan : Plan) (m : Meaning A) (S : State A) (e : Event) → may plan m S e ≡ true → is_counting_event e ≡ false → (x : ℕ) → is_gone (life_of S.tree x) ≡ false → is_gone (life_of (after plan m S e).tree x) ≡ false
quiet_there plan m S e h none x there = deeds_there plan (deeds plan S e) S x (event_fits plan m S e h) (no_end (deeds plan S e) (event_none plan S e none)) there

-- an event leaves what is there
abbrev Leaves : {A : Type 0} → Plan → Meaning A → State A → Event → Type 0
Leaves plan m S e = may plan m S e ≡ true → (x : ℕ) → is_gone (life_of S.tree x) ≡ false → is_gone (life_of (after plan m S e).tree x) ≡ false

abbrev DidLeaves : {A : Type 0} → Plan → Meaning A → State A → Cpu → CallKind → Type 0
DidLeaves plan m S k kind_ = (n : ℕ) (a b c : Arg) (v : Value) → Leaves plan m S (event.Did k (record { kind = kind_; count = n; a = a; b = b; c = c }) v)

-- a reference call has the deed of a reference, and its frame goes on
listed_there : {A : Type 0} (plan : Plan) (m : Meaning A) (S : State A) (k : Cpu) (c : Call) (v : Value) → ((f : ℕ) (frame : Frame) → none_ends (did_deeds plan S k.0 c v f frame) ≡ true) → Leaves plan m S (event.Did k c v)
listed_there plan m S k c v none h x there =
    let d = did_tells plan m S k c v h in
    deeds_there plan (deeds plan S (event.Did k c v)) S x (event_fits plan m S (event.Did k c v) h)
    (subst (λ (ds : List Deed). none_ends ds ≡ true) (sym (by_its_top S k.0 d.frame (did_deeds plan S k.0 c v) d.about.top)) (none d.frame (frame_of S.cpus d.frame))) there

did_leaves : {A : Type 0} (plan : Plan) (m : Meaning A) (S : State A) (k : Cpu) (kind_ : CallKind) → DidLeaves plan m S k kind_
did_leaves plan m S k call.WdfObjectReference n a b c v = listed_there plan m S k (record { kind = call.WdfObjectReference; count = n; a = a; b = b; c = c }) v (λ f frame. refl)
did_leaves plan m S k call.WdfObjectDereference n a b c v = listed_there plan m S k (record { kind = call.WdfObjectDereference; count = n; a = a; b = b; c = c }) v (λ f frame. refl)
did_leaves plan m S k _ n a b c v = λ h. quiet_there plan m S (event.Did k (record { kind = _; count = n; a = a; b = b; c = c }) v) h refl

-- the end of an object leaves the others
abbrev pub EndsAt : Event → ℕ → Type 0
EndsAt (event.Destroy o) x = x ≡ o.id.0
EndsAt _ x = ⊥

pub event_there : {A : Type 0} (plan : Plan) (m : Meaning A) (S : State A) (e : Event) → may plan m S e ≡ true → (x : ℕ) → (EndsAt e x → ⊥) → is_gone (life_of S.tree x) ≡ false → is_gone (life_of (after plan m S e).tree x) ≡ false
event_there plan m S (event.Destroy o) h x other there = ap (λ (n : Node). is_gone n.life) (entry_put_other gone S.tree.nodes o.id.0 x gone other) ∙ there
event_there plan m S (event.Did k c v) h x other there = did_leaves plan m S k c.kind c.count c.a c.b c.c v h x there
event_there plan m S (event.Waiting k c) h x other there = quiet_there plan m S (event.Waiting k c) h (waits_not plan S c.kind c.count c.a c.b c.c (waiting_tells plan m S k c h).unmet) x there
event_there plan m S (event.Start cpu c o r) h x other there = quiet_there plan m S (event.Start cpu c o r) h refl x there
event_there plan m S (event.Local cpu line) h x other there = quiet_there plan m S (event.Local cpu line) h refl x there
event_there plan m S (event.Log cpu v) h x other there = quiet_there plan m S (event.Log cpu v) h refl x there
event_there plan m S (event.Spend cpu n) h x other there = quiet_there plan m S (event.Spend cpu n) h refl x there
event_there plan m S (event.Register cpu a b v) h x other there = quiet_there plan m S (event.Register cpu a b v) h refl x there
event_there plan m S (event.Woke cpu c v) h x other there = quiet_there plan m S (event.Woke cpu c v) h refl x there
event_there plan m S (event.Park cpu f) h x other there = quiet_there plan m S (event.Park cpu f) h refl x there
event_there plan m S (event.Unpark cpu f) h x other there = quiet_there plan m S (event.Unpark cpu f) h refl x there
event_there plan m S (event.End cpu c o v) h x other there = quiet_there plan m S (event.End cpu c o v) h refl x there
event_there plan m S (event.Fault cpu f line) h x other there = quiet_there plan m S (event.Fault cpu f line) h refl x there
event_there plan m S (event.Stage d s i) h x other there = quiet_there plan m S (event.Stage d s i) h refl x there
event_there plan m S (event.Complete q s) h x other there = quiet_there plan m S (event.Complete q s) h refl x there
event_there plan m S (event.Cleanup o) h x other there = quiet_there plan m S (event.Cleanup o) h refl x there
event_there plan m S (event.Posted agent p answer) h x other there = quiet_there plan m S (event.Posted agent p answer) h refl x there
event_there plan m S (event.Tick time) h x other there = quiet_there plan m S (event.Tick time) h refl x there

-- ---- what is gone was told so

-- an object is declared, or told
abbrev pub Known : Plan → List Event → ℕ → Type 0
Known plan es x = ((d : Declared) × (declared_of plan x ≡ Some d)) ⊎ ((t : Told) × (first_told plan es x ≡ Some t))

pub known_within : (plan : Plan) (es : List Event) (T : Tree) (x : ℕ) → Family plan es T → Known plan es x → x < length T.nodes
known_within plan es T x k (inl p) = let w = declared_within plan x p.0 p.1 in let l = k.declared_first in omega arith
known_within plan es T x k (inr p) = (k.after x p.0 p.1).1

-- what is known and gone had its cleanup and its end
abbrev GoneTold : {A : Type 0} → Plan → List Event → State A → Type 0
GoneTold plan es S = (x : ℕ) → Known plan es x → is_gone (life_of S.tree x) ≡ true → (ever (sign.Cleaned x) es ≡ true) × (ever (sign.Destroyed x) es ≡ true)

pub ever_still : (s : Sign) (es : List Event) (e : Event) → ever s es ≡ true → ever s (es ++ e ∷ []) ≡ true
ever_still s es e h = ever_next s es e ∙ first (ever s es) (shows s e) h

pub ever_now : (s : Sign) (es : List Event) (e : Event) → shows s e ≡ true → ever s (es ++ e ∷ []) ≡ true
ever_now s es e h = ever_next s es e ∙ second (ever s es) (shows s e) h

-- what is known after one event more was known before, or is told now
known_next : (plan : Plan) (es : List Event) (e : Event) (x : ℕ) → Known plan (es ++ e ∷ []) x → Known plan es x ⊎ ((t : Told) × Tells plan x e t)
known_next plan es e x (inl p) = inl (inl p)
known_next plan es e x (inr p) = elim (told_next plan es e x p.0 p.1) [
  | inl old ↦ inl (inr (p.0, old))
  | inr new ↦ inr (p.0, new.1)
]

abbrev pub AllSeen : {A : Type 0} → List Event → State A → Type 0
AllSeen es S = (x : ℕ) → is_cleaned (life_of S.tree x) ≡ true → ever (sign.Cleaned x) es ≡ true

-- an object that an event ends
ends_now : {A : Type 0} (plan : Plan) (m : Meaning A) (es : List Event) (S : State A) (e : Event) (x : ℕ) → may plan m S e ≡ true → AllSeen es S → EndsAt e x
    → (ever (sign.Cleaned x) (es ++ e ∷ []) ≡ true) × (ever (sign.Destroyed x) (es ++ e ∷ []) ≡ true)
ends_now plan m es S (event.Destroy o) x h seen at = (
  ever_still (sign.Cleaned x) es (event.Destroy o) (subst (λ y. ever (sign.Cleaned y) es ≡ true) (sym at) (seen o.id.0 (ends plan m S o h))),
  ever_now (sign.Destroyed x) es (event.Destroy o) (equal o.id.0 x (sym at)),
)
ends_now plan m es S _ x h seen at = absurd at

-- whether an event ends an object
ends_or_not : (e : Event) (x : ℕ) → EndsAt e x ⊎ (EndsAt e x → ⊥)
ends_or_not (event.Destroy o) x = one_or_two x o.id.0
ends_or_not _ x = inr (λ z. z)

gone_goes_on : {A : Type 0} (plan : Plan) (m : Meaning A) (es : List Event) (S : State A) (e : Event) → may plan m S e ≡ true → AllSeen es S → GoneTold plan es S → GoneTold plan (es ++ e ∷ []) (after plan m S e)
gone_goes_on plan m es S e h seen k x known off = elim (known_next plan es e x known) [
  | inr new ↦ absurd (
      let made : Makes plan S.tree (after plan m S e).tree new.0 = event_makes plan m S e new.0 h new.1.told in
      let there : is_gone (life_of (after plan m S e).tree x) ≡ false = subst (λ y. is_gone (life_of (after plan m S e).tree y) ≡ false) new.1.object made.there in
      let z : ⊥ = cc in z)
  | inl old ↦ elim (ends_or_not e x) [
    | inl at ↦ ends_now plan m es S e x h seen at
    | inr other ↦ elim (cases_Bool (is_gone (life_of S.tree x))) [
      | inl was ↦ let p = k x old was in (ever_still (sign.Cleaned x) es e p.0, ever_still (sign.Destroyed x) es e p.1)
      | inr there ↦ absurd (let on_ : is_gone (life_of (after plan m S e).tree x) ≡ false = event_there plan m S e h x other there in let z : ⊥ = cc in z)
    ]
  ]
]

tick_goes_on : {A : Type 0} (plan : Plan) (m : Meaning A) (es : List Event) (S : State A) (time : ℕ) → GoneTold plan es S → GoneTold plan (es ++ event.Tick time ∷ []) (after plan m S (event.Tick time))
tick_goes_on plan m es S time k x known off = elim (known_next plan es (event.Tick time) x known) [
  | inr new ↦ absurd (let t = new.1.told in let z : ⊥ = cc in z)
  | inl old ↦ let p = k x old off in (ever_still (sign.Cleaned x) es (event.Tick time) p.0, ever_still (sign.Destroyed x) es (event.Tick time) p.1)
]

either_gone : {A : Type 0} (plan : Plan) (m : Meaning A) (es : List Event) (S : State A) (offered : List Event) (e : Event) → (may plan m S e ≡ true) ⊎ IsTick m S offered e → AllSeen es S
    → GoneTold plan es S → GoneTold plan (es ++ e ∷ []) (after plan m S e)
either_gone plan m es S offered e (inl h) seen k = gone_goes_on plan m es S e h seen k
either_gone plan m es S offered e (inr t) seen k = subst (λ y. GoneTold plan (es ++ y ∷ []) (after plan m S y)) (sym t.tick) (tick_goes_on plan m es S (S.clock + 1) k)

all_there : (ds : List Declared) (k : ℕ) (d : Declared) → slice_get ds k ≡ Some d → is_gone (entry gone (map declared_node ds) k).life ≡ false
all_there [] k d h = absurd (let z : ⊥ = cc in z)
all_there (x ∷ xs) zero d h = refl
all_there (x ∷ xs) (suc k) d h = all_there xs k d h

pub declared_there : (plan : Plan) (x : ℕ) (d : Declared) → declared_of plan x ≡ Some d → is_gone (life_of (opening_tree plan) x) ≡ false
declared_there plan zero d h = absurd (let z : ⊥ = cc in z)
declared_there plan (suc k) d h = all_there plan.declared k d h

opening_gone : (plan : Plan) (x : ℕ) → Known plan [] x → is_gone (life_of (opening_tree plan) x) ≡ true → ⊥
opening_gone plan x (inl p) off = let there = declared_there plan x p.0 p.1 in let z : ⊥ = cc in z
opening_gone plan x (inr p) off = let none = p.1 in let z : ⊥ = cc in z

gone_opens : {A : Type 0} (plan : Plan) (m : Meaning A) → GoneTold plan [] (state_after plan m [])
unfolding state_after
gone_opens plan m x known off = absurd (opening_gone plan x known off)

seen_now : {A : Type 0} (plan : Plan) (m : Meaning A) (run : List Event) → IsRunOf plan m run → AllSeen run (state_after plan m run)
seen_now plan m run is_run = subst (λ (es : List Event). AllSeen es (state_after plan m es)) (take_all (length run) run (omega arith)) (seen_at_each plan m run is_run (length run))

gone_at_each : {A : Type 0} (plan : Plan) (m : Meaning A) (run : List Event) → IsRunOf plan m run → (n : ℕ) → GoneTold plan (take n run) (state_after plan m (take n run))
gone_at_each {A} plan m run is_run n = along_run (λ es. GoneTold plan es (state_after plan m es)) (ready plan m) run (gone_opens plan m)
    (λ before e place so_far held at. subst (λ (T : State A). GoneTold plan (before ++ e ∷ []) T) (sym (state_goes_on plan m before e))
    (either_gone plan m before (state_after plan m before) (ready plan m before) e (follows plan m before place e at) (seen_now plan m before so_far) held))
    is_run n

pub ended_told : {A : Type 0} (plan : Plan) (m : Meaning A) (run : List Event) → IsRunOf plan m run → (n x : ℕ) → Known plan (take n run) x → is_gone (life_of (state_after plan m (take n run)).tree x) ≡ true → ever (sign.Destroyed x) (take n run) ≡ true
ended_told plan m run is_run n x known off = (gone_at_each plan m run is_run n x known off).1

late_is : (l : Life) → is_past_cleanup l ≡ true → (is_gone l ≡ true) ⊎ (is_cleaned l ≡ true)
late_is life.Gone h = inl refl
late_is life.Cleaned h = inr refl
late_is life.Live h = absurd (let z : ⊥ = cc in z)
late_is life.Asked h = absurd (let z : ⊥ = cc in z)

pub cleaned_told : {A : Type 0} (plan : Plan) (m : Meaning A) (run : List Event) → IsRunOf plan m run → (n x : ℕ) → Known plan (take n run) x → is_past_cleanup (life_of (state_after plan m (take n run)).tree x) ≡ true → ever (sign.Cleaned x) (take n run) ≡ true
cleaned_told plan m run is_run n x known late = elim (late_is (life_of (state_after plan m (take n run)).tree x) late) [
  | inl off ↦ (gone_at_each plan m run is_run n x known off).0
  | inr done ↦ seen_at_each plan m run is_run n x done
]
