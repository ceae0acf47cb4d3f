-- An arrival's agent and number are its own, at each place of every run.
use Rattle.std.proofs.Common.{if◌then◌else◌, ◌≡◌, ◌≢◌, ℕ, suc, ◌+◌, ◌≤◌, Bool, true, false, not, List, [], ◌∷◌, inl, inr, take, refl, sym, ap, subst, ◌∙◌, arith}
use Rattle.std.proofs.lemmas.Bool.{cases_Bool}
use Rattle.std.proofs.lemmas.Bool.Decides.{nat_tests}
use Rattle.wdf_base.specs.Meaning.{Meaning}
use Rattle.wdf_base.specs.declared.plan.Plan.{Plan}
use Rattle.wdf_base.specs.declared.event.Event.{Event}
use Rattle.wdf_base.specs.declared.event.Event.TheVariants as event
use Rattle.wdf_base.specs.declared.event.Post.TheVariants as post
use Rattle.wdf_base.specs.declared.object.Place.{Place}
use Rattle.wdf_base.specs.declared.object.Place.TheVariants as place
use Rattle.wdf_base.specs.declared.object.RequestForm.{RequestForm}
use Rattle.wdf_base.specs.declared.object.RequestForm.TheVariants as form
use Rattle.wdf_base.specs.declared.object.RequestInfo.{RequestInfo}
use Rattle.wdf_base.specs.Lives.{is_live}
use Rattle.wdf_model.specs.declared.enums.Mode.TheVariants as mode
use Rattle.wdf_model.specs.declared.entries.Request.{Request}
use Rattle.wdf_model.specs.Tables.{change_at, entry}
use Rattle.wdf_model.specs.Plans.{managed_queues, queues_of}
use Rattle.wdf_model.specs.parts.Tree.{life_of, next_id, subtree}
use Rattle.wdf_model.specs.parts.Requests.{Requests, info_of, no_request, request_of}
use Rattle.wdf_model.specs.parts.Requests as requests
use Rattle.wdf_model.specs.parts.Queues.{waiting_in}
use Rattle.wdf_model.specs.parts.Control as control
use Rattle.wdf_model.specs.State.{State}
use Rattle.wdf_model.specs.Ids.{object_id}
use Rattle.wdf_model.specs.declared.deed.Deed.{Deed}
use Rattle.wdf_model.specs.declared.deed.Deed.TheVariants.{Arrive, CountArrival, AskDeletion, Requeue, Forward, GiveBack, SendRequest, CompleteRequest, PurgeQueue, CloseReturning, CloseDevice}
use Rattle.wdf_model.specs.rules.Deeds.{arrive_at, do_deed, do_deeds, give_up}
use Rattle.wdf_model.specs.rules.Posts.{arrival_info, arrival_place}
use Rattle.wdf_model.specs.rules.Steps.{deeds}
use Rattle.wdf_model.specs.rules.Ready.{IsRunOf, state_after}
use Rattle.wdf_model.proofs.Tests.{both_left, both_right, not_true}
use Rattle.wdf_model.proofs.Maps.{entry_put_other, entry_put_same}
use Rattle.wdf_model.proofs.Counts.{one_or_two}
use Rattle.law_machine_base.proofs.KeptByDeeds.{is_arrival, none_arrives}
use Rattle.law_machine_base.proofs.Arrivals.{event_none, is_arrival_event}
use Rattle.law_machine_lives.specs.Agreements.{ArrivalsAgree}
use Rattle.law_machine_lives.proofs.Keeping.{each_place}
use Rattle.law_machine_lives.proofs.Stays.{asks_all, gives_up, gives_up_if, queues_closed, returns_closed, withdraws}
use Rattle.law_machine_lives.proofs.ArrivedStay.{ArrivedStay, arrival_in, arrived_stay}

abbrev agent_in : Requests → ℕ → ℕ
agent_in R r = (info_of R r).agent

-- what arrived is counted, and no two are one arrival
pub record Numbered (R : Requests) (counts : List ℕ) : Type 0 where
  pub counted : (r : ℕ) → 1 ≤ arrival_in R r → arrival_in R r ≤ entry 0 counts (agent_in R r)
  pub once : (r s : ℕ) → 1 ≤ arrival_in R r → agent_in R r ≡ agent_in R s → arrival_in R r ≡ arrival_in R s → r ≡ s

was : (R U : Requests) (x : ℕ) → ArrivedStay R U → 1 ≤ arrival_in U x → (agent_in U x ≡ agent_in R x) × (arrival_in U x ≡ arrival_in R x)
was R U x stay h = elim (stay x) [
  | inl k ↦ (k.agent, k.arrival)
  | inr none ↦ absurd (omega arith)
]

numbered_still : (R U : Requests) (counts later : List ℕ) → ArrivedStay R U → ((a : ℕ) → entry 0 counts a ≤ entry 0 later a) → Numbered R counts → Numbered U later
numbered_still R U counts later stay more k = record {
  counted = λ r h.
      let same = was R U r stay h in
      let number = same.1 in
      let old : arrival_in R r ≤ entry 0 counts (agent_in R r) = k.counted r (omega arith) in
      let grown = more (agent_in R r) in
      let here : entry 0 later (agent_in U r) ≡ entry 0 later (agent_in R r) = ap (entry 0 later) same.0 in
      omega arith;
  once = λ r s h agents numbers.
      let p = was R U r stay h in
      let q = was R U s stay (omega arith) in
      let n = p.1 in
      k.once r s (omega arith) (sym p.0 ∙ agents ∙ q.0) (sym p.1 ∙ numbers ∙ q.1);
}

-- ---- the counts of arrivals

grows : (counts : List ℕ) (agent a : ℕ) → entry 0 counts a ≤ entry 0 (change_at 0 counts agent suc) a
grows counts agent a = elim (one_or_two a agent) [
  | inl e ↦ let here = entry_put_same 0 counts agent (suc (entry 0 counts agent)) in
      let now : entry 0 (change_at 0 counts agent suc) a ≡ entry 0 (change_at 0 counts agent suc) agent = ap (entry 0 (change_at 0 counts agent suc)) e in
      let before : entry 0 counts a ≡ entry 0 counts agent = ap (entry 0 counts) e in omega arith
  | inr n ↦ let same = entry_put_other 0 counts agent a (suc (entry 0 counts agent)) n in omega arith
]

abbrev arrivals_of : {A : Type 0} → State A → List ℕ
arrivals_of S = S.arrivals

same_counts : (xs ys : List ℕ) (a : ℕ) → ys ≡ xs → entry 0 xs a ≤ entry 0 ys a
same_counts xs ys a e = let same : entry 0 ys a ≡ entry 0 xs a = ap (λ zs. entry 0 zs a) e in omega arith

counts_by : {A : Type 0} (plan : Plan) (d : Deed) (S : State A) → is_arrival d ≡ false → (a : ℕ) → entry 0 S.arrivals a ≤ entry 0 (do_deed plan d S).arrivals a
counts_by plan (Arrive device info p) S h a = absurd (let z : ⊥ = cc in z)
counts_by plan (CountArrival agent) S h a = grows S.arrivals agent a
counts_by plan (AskDeletion o) S h a = same_counts _ _ a (asks_all arrivals_of (λ S T D W U. refl) (subtree S.tree o.0) S)
counts_by plan (Requeue r p) S f a = same_counts _ _ a (gives_up arrivals_of (λ S Q R P. refl) S r.0)
counts_by plan (Forward r p) S f a = same_counts _ _ a (gives_up arrivals_of (λ S Q R P. refl) S r.0)
counts_by plan (GiveBack r p) S f a = same_counts _ _ a (gives_up arrivals_of (λ S Q R P. refl) S r.0)
counts_by plan (SendRequest r t forget) S f a = same_counts _ _ a (gives_up_if arrivals_of (λ S Q R P. refl) S forget r.0)
counts_by plan (CompleteRequest r) S f a =
    same_counts _ _ a (asks_all arrivals_of (λ S T D W U. refl) (subtree (give_up S r.0).tree r.0) (record (give_up S r.0) { requests = requests.complete S.requests r.0 }) ∙ gives_up arrivals_of (λ S Q R P. refl) S r.0)
counts_by plan (PurgeQueue p) S f a = same_counts _ _ a (withdraws arrivals_of (λ S Q R P. refl) plan p.0 (waiting_in S.queues p.0) (record S { control = control.set_mode S.control p.0 mode.Purged }))
counts_by plan (CloseReturning d) S f a = same_counts _ _ a (returns_closed arrivals_of (λ S Q R P. refl) (managed_queues plan d.0) S)
counts_by plan (CloseDevice d) S f a = same_counts _ _ a (queues_closed arrivals_of (λ S Q R P. refl) (queues_of plan d.0) (record S { control = control.shut S.control d.0 }))
counts_by plan _ S h a = omega arith

-- ---- events

abbrev NumberedIn : {A : Type 0} → State A → Type 0
NumberedIn S = Numbered S.requests S.arrivals

deeds_number : {A : Type 0} (plan : Plan) (ds : List Deed) (S : State A) → none_arrives ds ≡ true → NumberedIn S → NumberedIn (do_deeds plan ds S)
deeds_number plan [] S h k = k
deeds_number plan (d ∷ ds) S h k =
    let none : is_arrival d ≡ false = not_true (is_arrival d) (both_left (not (is_arrival d)) (none_arrives ds) h) in
    deeds_number plan ds (do_deed plan d S) (both_right (not (is_arrival d)) (none_arrives ds) h)
    (numbered_still S.requests (do_deed plan d S).requests S.arrivals (do_deed plan d S).arrivals (arrived_stay plan d S none) (counts_by plan d S none) k)

came : {A : Type 0} (S : State A) (device : ℕ) (info : RequestInfo) (p : Place) → ((arrive_at S device info p).requests ≡ requests.arrive S.requests (next_id S.tree) p info) × ((arrive_at S device info p).arrivals ≡ S.arrivals)
came S device info (place.Queued q) = (refl, refl)
came S device info _ = (refl, refl)

-- a request arrives with the next number of its agent
arrives_next : (R : Requests) (counts : List ℕ) (r agent : ℕ) (p : Place) (info : RequestInfo) → info.agent ≡ agent → info.arrival ≡ entry 0 counts agent + 1 → Numbered R counts
    → Numbered (requests.arrive R r p info) (change_at 0 counts agent suc)
arrives_next R counts r agent p info a n k =
    let U = requests.arrive R r p info in
    let later = change_at 0 counts agent suc in
    let here : request_of U r ≡ record { place = p; info = info } = entry_put_same no_request R.all r (record { place = p; info = info }) in
    let agent_here : agent_in U r ≡ agent = ap (λ (q : Request). q.info.agent) here ∙ a in
    let number_here : arrival_in U r ≡ entry 0 counts agent + 1 = ap (λ (q : Request). q.info.arrival) here ∙ n in
    let elsewhere = λ (x : ℕ) (d : x ≢ r). entry_put_other no_request R.all r x (record { place = p; info = info }) d in
    let agent_at = λ (x : ℕ) (d : x ≢ r). ap (λ (q : Request). q.info.agent) (elsewhere x d) in
    let number_at = λ (x : ℕ) (d : x ≢ r). ap (λ (q : Request). q.info.arrival) (elsewhere x d) in
    let top : entry 0 later agent ≡ suc (entry 0 counts agent) = entry_put_same 0 counts agent (suc (entry 0 counts agent)) in
    let others = λ (x y : ℕ) (ex : x ≡ r) (d : y ≢ r) (h : 1 ≤ arrival_in U y) (agents : agent_in U x ≡ agent_in U y) (numbers : arrival_in U x ≡ arrival_in U y).
    (let old : arrival_in R y ≤ entry 0 counts (agent_in R y) = k.counted y (let m = number_at y d in omega arith) in
    let mine : agent_in R y ≡ agent = sym (agent_at y d) ∙ sym agents ∙ ap (agent_in U) ex ∙ agent_here in
    let count : entry 0 counts (agent_in R y) ≡ entry 0 counts agent = ap (entry 0 counts) mine in
    let number : arrival_in R y ≡ entry 0 counts agent + 1 = sym (number_at y d) ∙ sym numbers ∙ ap (arrival_in U) ex ∙ number_here in
    let z : ⊥ = omega arith in z) in
    record {
      counted = λ x h. elim (one_or_two x r) [
        | inl e ↦ let one : arrival_in U x ≡ entry 0 counts agent + 1 = ap (arrival_in U) e ∙ number_here in let two : entry 0 later (agent_in U x) ≡ suc (entry 0 counts agent) = ap (λ y. entry 0 later (agent_in U y)) e ∙ ap (entry 0 later) agent_here ∙ top in omega arith
        | inr d ↦
            let m = number_at x d in
            let old : arrival_in R x ≤ entry 0 counts (agent_in R x) = k.counted x (omega arith) in
            let more = grows counts agent (agent_in R x) in
            let same : entry 0 later (agent_in U x) ≡ entry 0 later (agent_in R x) = ap (entry 0 later) (agent_at x d) in omega arith
      ];
      once = λ x y h agents numbers. elim (one_or_two x r) [
        | inl ex ↦ elim (one_or_two y r) [
          | inl ey ↦ ex ∙ sym ey
          | inr dy ↦ absurd (others x y ex dy (omega arith) agents numbers)
        ]
        | inr dx ↦ elim (one_or_two y r) [
          | inl ey ↦ absurd (others y x ey dx h (sym agents) (sym numbers))
          | inr dy ↦ let m = number_at x dx in k.once x y (omega arith) (sym (agent_at x dx) ∙ agents ∙ agent_at y dy) (sym (number_at x dx) ∙ numbers ∙ number_at y dy)
        ]
      ];
    }

arrival_by : {A : Type 0} (plan : Plan) (S : State A) (agent : ℕ) (f : RequestForm) (length code device : ℕ) (b : Bool) → NumberedIn S
    → NumberedIn (do_deeds plan (CountArrival agent ∷ (if b then Arrive (object_id device) (arrival_info S agent f length code device) (arrival_place plan S f length device) ∷ [] else [])) S)
arrival_by {A} plan S agent f length code device true k =
    let T = do_deed plan (CountArrival agent) S in
    let info : RequestInfo = arrival_info S agent f length code device in
    let p : Place = arrival_place plan S f length device in
    let e = came T device info p in
    subst (λ (R : Requests). Numbered R (arrive_at T device info p).arrivals) (sym e.0)
    (subst (λ (counts : List ℕ). Numbered (requests.arrive T.requests (next_id T.tree) p info) counts) (sym e.1) (arrives_next S.requests S.arrivals (next_id T.tree) agent p info refl refl k))
arrival_by plan S agent f length code device false k = deeds_number plan (CountArrival agent ∷ []) S refl k

arrival_event : {A : Type 0} (plan : Plan) (S : State A) (e : Event) → is_arrival_event e ≡ true → NumberedIn S → NumberedIn (do_deeds plan (deeds plan S e) S)
arrival_event plan S (event.Posted agent (post.Read device length) answer) a k = arrival_by plan S agent form.Read length 0 device.id.0 (is_live (life_of S.tree device.id.0)) k
arrival_event plan S (event.Posted agent (post.Write device length) answer) a k = arrival_by plan S agent form.Write length 0 device.id.0 (is_live (life_of S.tree device.id.0)) k
arrival_event plan S (event.Posted agent (post.Control device code length) answer) a k = arrival_by plan S agent form.Control length code device.id.0 (is_live (life_of S.tree device.id.0)) k
arrival_event plan S _ a k = absurd (let z : ⊥ = cc in z)

event_numbers : {A : Type 0} (plan : Plan) (S : State A) (e : Event) → NumberedIn S → NumberedIn (do_deeds plan (deeds plan S e) S)
event_numbers plan S e k = elim (cases_Bool (is_arrival_event e)) [
  | inl a ↦ arrival_event plan S e a k
  | inr a ↦ deeds_number plan (deeds plan S e) S (event_none plan S e a) k
]

-- ---- each place of a run

opens : Numbered requests.no_requests []
opens = record { counted = λ r h. absurd (omega arith); once = λ r s h agents numbers. absurd (omega arith) }

pub numbered_at_each : {A : Type 0} (plan : Plan) (m : Meaning A) (run : List Event) → IsRunOf plan m run → (n : ℕ) → NumberedIn (state_after plan m (take n run))
numbered_at_each {A} plan m run is_run n = each_place plan m (λ (S : State A). NumberedIn S) opens (λ S e known may_come k. event_numbers plan S e k) (λ S time k. k) run is_run n

pub arrivals_agree_at_each : {A : Type 0} (plan : Plan) (m : Meaning A) (run : List Event) → IsRunOf plan m run → (n : ℕ) → ArrivalsAgree (state_after plan m (take n run))
arrivals_agree_at_each plan m run is_run n =
    let S = state_after plan m (take n run) in
    record { once = λ r s h agents numbers. (numbered_at_each plan m run is_run n).once r s (let one : 1 ≤ (info_of S.requests r).arrival = grind (arith, nat_tests) in one) agents numbers }
