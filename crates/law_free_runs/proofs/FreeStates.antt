-- What is known of each state of a free run: of places, frames and steps, of what is declared, and of locks and who holds them.
use Rattle.std.proofs.Common.{◌≡◌, ℕ, ◌+◌, ◌≤◌, true, List, [], Some, length, refl, sym, ap, subst, ◌∙◌, arith}
use Rattle.wdf_base.specs.Meaning.{Meaning}
use Rattle.wdf_base.specs.declared.plan.Plan.{Plan}
use Rattle.wdf_base.specs.declared.event.Event.{Event}
use Rattle.wdf_base.specs.declared.event.Event.TheVariants as event
use Rattle.wdf_model.specs.parts.Tree.{Tree}
use Rattle.wdf_model.specs.State.{State, opening}
use Rattle.wdf_model.specs.declared.deed.Deed.{Deed}
use Rattle.wdf_model.specs.rules.Deeds.{counted, do_deeds}
use Rattle.wdf_model.specs.rules.Ready.{ready}
use Rattle.wdf_model.specs.rules.Steps.{after, deeds, may}
use Rattle.law_machine_base.specs.Fits.{all_fit}
use Rattle.law_machine_base.specs.OverRuns.{DeclaredAgree, is_declared_kind}
use Rattle.wdf_model.proofs.Runs.{run_opens}
use Rattle.law_machine_base.proofs.FitsOfEvents.{event_fits}
use Rattle.law_machine_counts.proofs.DeclaredOverRuns.{declared_agree_at_each, deeds_kinds}
use Rattle.law_machine_counts.proofs.Framed.{Framed}
use Rattle.law_machine_counts.proofs.StepStates.{StepsIn}
use Rattle.law_machine_counts.proofs.StepsOverRuns.{opening_steps}
use Rattle.law_machine_counts.proofs.StepTable.{event_keeps_steps, tick_keeps_steps}
use Rattle.law_machine_lives.specs.Agreements.{FramesThere, LocksAgree}
use Rattle.law_machine_lives.proofs.Framing.{Framing, deeds_frame, framing_at_each, told as told_framing}
use Rattle.law_machine_lives.proofs.Keeping as keeping
use Rattle.law_machine_lives.proofs.LocksOnce.{Once}
use Rattle.law_machine_lives.proofs.LocksOnce as locks_once
use Rattle.law_machine_lives.proofs.SoundRuns.{KnownAll, all_sound}
use Rattle.law_trace_families.proofs.Families.{Family, declared_within, family_at_each}
use Rattle.law_trace_families.proofs.Stays.{Stays, WasAt, event_stays}
use Rattle.law_trace_scopes.proofs.Frames.{Agrees, agrees_at_each, event_step, number_step}
use Rattle.wdf_laws.specs.Frames.{Frames, frames_after, frames_step}
use Rattle.law_free_runs.specs.FreeRuns.{IsFreeRun}
use Rattle.law_free_runs.proofs.FreeRuns.{free_place}
use Rattle.law_free_runs.proofs.Places.{Places, first_state, opening_places, places_after}
use Rattle.law_machine_lives.proofs.FramesLaws.{holder_there}

pub record FreeState {A : Type 0} (plan : Plan) (S : State A) : Type 0 where
  pub places : Places S
  pub steps : StepsIn S.number S.number S
  pub declared : DeclaredAgree plan S
  -- each declared object that is there has its parent and its kind
  pub family : Family plan [] S.tree
  pub framing : Framing plan S
  -- a lock is held once at most
  pub once : Once S.locks
  -- what events say of frames is so, and each frame holds its callback's lock
  pub frames : Frames
  pub number : frames.number ≡ S.number
  pub agrees : Agrees plan frames.stacks frames.begun S

-- ---- what other laws ask for

pub known_all : {A : Type 0} (plan : Plan) (S : State A) → FreeState plan S → KnownAll plan S
known_all plan S k = record {
  known = record {
    places = record { queued = k.places.queued; sent = k.places.sent };
    frames = record { once = k.steps.framed.once; numbered = k.steps.framed.old; device = k.steps.framed.known; object = k.steps.framed.there };
    declared = k.declared;
    room = k.places.room;
    kinds = k.places.kinds;
  };
  framing = k.framing;
}

-- ---- the steps of sequences

told_more : {A : Type 0} (m : Meaning A) (e : Event) (N : ℕ) (S : State A) → StepsIn N (N + 1) S → StepsIn (counted m e S).number (counted m e S).number (counted m e S)
told_more m e N S h =
    let more : N + 1 ≡ S.number + 1 = ap (λ n. n + 1) (sym h.number) in
    record { number = refl; framed = subst (λ n. Framed S.cpus S.tree n) more h.framed; rooted = h.rooted; stepping = h.stepping }

-- ---- what is declared

declared_after : {A : Type 0} (plan : Plan) (ds : List Deed) (S : State A) → all_fit plan ds S ≡ true → DeclaredAgree plan S → DeclaredAgree plan (do_deeds plan ds S)
declared_after plan ds S f k = record {
  declared = λ o is. let stay = deeds_kinds plan ds S f o is in k.declared o (ap is_declared_kind (sym stay) ∙ is) ∙ ap Some (sym stay);
}

pub family_after : (plan : Plan) (T U : Tree) → Stays T U → Family plan [] T → Family plan [] U
family_after plan T U stays k = record {
  declared_first = let l = stays.longer in let w = k.declared_first in omega arith;
  after = λ o t h. absurd (let z : ⊥ = cc in z);
  declared = λ o d h there.
      let w = declared_within plan o d h in let l = k.declared_first in
      let was : WasAt T U o = stays.was o (omega arith) there in
      let old = k.declared o d h was.there in
      (was.parent ∙ old.0, was.kind ∙ old.1);
  told = λ o t h there. absurd (let z : ⊥ = cc in z);
}

-- ---- frames and locks

-- ---- the opening, an event, a tick

pub opening_state : {A : Type 0} (plan : Plan) (m : Meaning A) → FreeState plan (opening plan m)
opening_state {A} plan m =
    let opens = run_opens (ready plan m) in
    let start = first_state plan m in
    let a = agrees_at_each plan m [] opens 0 in
    record {
      places = opening_places plan m;
      steps = opening_steps plan m;
      declared = subst (λ (S : State A). DeclaredAgree plan S) start (declared_agree_at_each plan m [] opens 0);
      family = subst (λ (S : State A). Family plan [] S.tree) start (family_at_each plan m [] opens 0);
      framing = subst (λ (S : State A). Framing plan S) start (framing_at_each plan m [] opens 0);
      once = λ l. omega arith;
      frames = frames_after [];
      number = a.number;
      agrees = subst (λ (S : State A). Agrees plan (frames_after []).stacks (frames_after []).begun S) start a.agrees;
    }

pub event_state : {A : Type 0} (plan : Plan) (m : Meaning A) (S : State A) (e : Event) → may plan m S e ≡ true → FreeState plan S → FreeState plan (after plan m S e)
event_state {A} plan m S e h k =
    let U : State A = do_deeds plan (deeds plan S e) S in
    let known : KnownAll plan S = known_all plan S k in
    let fit : all_fit plan (deeds plan S e) S ≡ true = event_fits plan m S e h in
    let places : Places U = places_after plan (deeds plan S e) S fit k.places in
    let declared : DeclaredAgree plan U = declared_after plan (deeds plan S e) S fit k.declared in
    let framing : Framing plan U = deeds_frame plan (deeds plan S e) S fit (all_sound plan m S e known h) k.framing in
    let once : Once U.locks = keeping.deeds_keep plan (λ (V : State A). Once V.locks) (locks_once.deed_keeps plan) (deeds plan S e) S fit k.once in
    record {
      places = places;
      steps = told_more m e S.number U (event_keeps_steps plan m S e h k.steps);
      declared = record { declared = declared.declared };
      family = family_after plan S.tree (after plan m S e).tree (event_stays plan m S e h) k.family;
      framing = told_framing plan m e U framing;
      once = once;
      frames = frames_step k.frames e;
      number = number_step k.frames e ∙ ap (λ n. n + 1) (k.number ∙ sym (event_keeps_steps plan m S e h k.steps).number);
      agrees = event_step plan m k.frames S e h known k.once k.number k.agrees;
    }

pub tick_state : {A : Type 0} (plan : Plan) (m : Meaning A) (S : State A) (time : ℕ) → FreeState plan S → FreeState plan (after plan m S (event.Tick time))
tick_state plan m S time k = record {
  places = let p : Places S = k.places in p;
  steps = told_more m (event.Tick time) S.number (do_deeds plan (deeds plan S (event.Tick time)) S) (tick_keeps_steps plan S time k.steps);
  declared = record { declared = k.declared.declared };
  family = k.family;
  framing = record { there = k.framing.there; held = k.framing.held };
  once = k.once;
  frames = frames_step k.frames (event.Tick time);
  number = ap (λ n. n + 1) k.number;
  agrees = record { stacks = k.agrees.stacks; begun = k.agrees.begun; holds = k.agrees.holds };
}

-- ---- who holds a lock is there

-- ---- each place of a free run

pub free_state : {A : Type 0} (plan : Plan) (run : List Event) (free : IsFreeRun A plan run) (n : ℕ) → n ≤ length run → FreeState plan (free.states n)
free_state {A} plan run free n h = free_place plan (λ (S : State A). FreeState plan S) (opening_state plan) (event_state plan) (tick_state plan) run free n h

pub locks_agree : {A : Type 0} (plan : Plan) (run : List Event) (free : IsFreeRun A plan run) (n : ℕ) → n ≤ length run → LocksAgree (free.states n)
locks_agree plan run free n h = let k = free_state plan run free n h in record { once = k.once; there = holder_there plan (free.states n) k.framing }

pub frames_there : {A : Type 0} (plan : Plan) (run : List Event) (free : IsFreeRun A plan run) (n : ℕ) → n ≤ length run → FramesThere (free.states n)
frames_there plan run free n h = record { there = (free_state plan run free n h).framing.there }
