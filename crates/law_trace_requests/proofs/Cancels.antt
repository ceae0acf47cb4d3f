-- EvtRequestCancel begins once for a request, which was cancelled while marked: each event keeps how the marks go with
-- what the events say.
use Rattle.std.proofs.Common.{if◌then◌else◌, ◌≡◌, ℕ, ◌<◌, Bool, true, false, not, ◌&&◌, ◌||◌, List, [], ◌∷◌, ◌++◌, ◌⊎◌, inl, inr, Some, length, refl, sym, ap, subst, ◌∙◌}
use Rattle.std.proofs.lemmas.Bool.{cases_Bool, eqb-true, or_cases}
use Rattle.std.proofs.lemmas.List.Sums.{fold-append}
use Rattle.wdf_base.specs.declared.ids.Cpu.{Cpu}
use Rattle.wdf_base.specs.declared.plan.Plan.{Plan}
use Rattle.wdf_base.specs.declared.value.Value.{Value}
use Rattle.wdf_base.specs.declared.value.Value.TheVariants.{Num, Obj, Stat}
use Rattle.wdf_base.specs.declared.value.Status.TheVariants as status
use Rattle.wdf_base.specs.declared.object.Mark.{Mark}
use Rattle.wdf_base.specs.declared.object.Mark.TheVariants as marks
use Rattle.wdf_base.specs.declared.call.Arg.{Arg}
use Rattle.wdf_base.specs.declared.call.Arg.TheVariants.{Val, Class}
use Rattle.wdf_base.specs.declared.call.Call.{Call}
use Rattle.wdf_base.specs.declared.call.CallKind.{CallKind}
use Rattle.wdf_base.specs.declared.call.CallKind.TheVariants as call
use Rattle.wdf_base.specs.declared.signature.Sort.{Sort}
use Rattle.wdf_base.specs.declared.call.Callback.TheVariants as callback
use Rattle.wdf_base.specs.declared.event.Event.{Event}
use Rattle.wdf_base.specs.declared.event.Event.TheVariants as event
use Rattle.wdf_base.specs.declared.event.Fault.TheVariants as fault
use Rattle.wdf_base.specs.Calls.{signature_of}
use Rattle.wdf_base.specs.Same.{same_call_kind}
use Rattle.wdf_base.specs.Places.{is_owned}
use Rattle.wdf_model.specs.declared.entries.Request.{Request}
use Rattle.wdf_model.specs.Plans.{declares}
use Rattle.wdf_model.specs.parts.Requests.{Requests, cancelled, is_cancelled, mark_answer, mark_of, marked, place_of, request_of, with_mark}
use Rattle.wdf_model.specs.parts.Requests as requests
use Rattle.wdf_model.specs.State.{State, object_in}
use Rattle.wdf_model.specs.Ids.{object_id}
use Rattle.wdf_model.specs.declared.deed.Deed.TheVariants.{MarkRequest}
use Rattle.wdf_model.specs.rules.Deeds.{do_deeds}
use Rattle.wdf_model.specs.rules.Faults.{View, is_object_sort, is_wrong_kind}
use Rattle.wdf_model.specs.rules.Calls.{Outcome, origin_or_none, outcome, refused}
use Rattle.wdf_model.specs.rules.Steps.{view_of}
use Rattle.wdf_model.proofs.Tests.{both, both_left, both_right, first, itself, not_false, second}
use Rattle.wdf_model.proofs.Sames.{call_kind_decides}
use Rattle.wdf_model.proofs.Counts.{one_or_two}
use Rattle.law_machine_base.proofs.Fits.{wrong_kind_of_first}
use Rattle.law_machine_base.proofs.FitsOfCalls.{Clean, outcome_fits}
use Rattle.law_machine_base.proofs.KeptByDeeds.{KeptIn, owned_undone}
use Rattle.wdf_laws.specs.declared.sign.Sign.{Sign}
use Rattle.wdf_laws.specs.declared.sign.Sign.TheVariants as sign
use Rattle.wdf_laws.specs.Events.{argument_object, is_id, is_undoing, where_so}
use Rattle.wdf_laws.specs.Signs.{shows}
use Rattle.wdf_laws.specs.Words.{ever, stands, stands_step}
use Rattle.law_machine_lives.proofs.ReasonsOfCalls.{call_of}
use Rattle.law_trace_requests.proofs.Happened.{ever_next}
use Rattle.law_trace_requests.proofs.Marks.{GoesAt, GoesOf, StillGoes, is_armed, is_told, one_at, others_at}
use Rattle.law_trace_requests.proofs.Gives.{Gives, each_gives}
use Rattle.wdf_base.specs.Values.{is_success}

-- ---- words

-- one event more
pub stands_next : (p q : Sign) (es : List Event) (e : Event) → stands p q (es ++ e ∷ []) ≡ (shows p e || (stands p q es && not (shows q e)))
unfolding stands
stands_next p q es e = fold-append (stands_step p q) false es (e ∷ [])

abbrev pub marks_stand : ℕ → List Event → Bool
marks_stand x es = stands (sign.Marked x) (sign.MarkUndone x) es

abbrev pub was_posted : ℕ → List Event → Bool
was_posted x es = ever (sign.CancelPosted x) es

abbrev pub has_begun : ℕ → List Event → Bool
has_begun x es = ever (sign.CancelBegins x) es

-- each request goes with what the events say of it
abbrev pub AllGo : List Event → Requests → Type 0
AllGo es R = (x : ℕ) → GoesAt (marks_stand x es) (was_posted x es) (has_begun x es) R x

told_more : (m c n d : Bool) (k : Mark) → (is_armed k ≡ true → m ≡ true → n ≡ true) → (c ≡ true → d ≡ true) → is_told m c k ≡ true → is_told n d k ≡ true
told_more m c n d marks.Marked h l t = h refl t
told_more m c n d marks.Due h l t = both n d (h refl (both_left m c t)) (l (both_right m c t))
told_more m c n d marks.Taken h l t = refl
told_more m c n d marks.Unmarked h l t = refl

-- the EvtRequestCancel of a request began: it is cancelled, and has no mark that counts
pub record Begun (R : Requests) (x : ℕ) : Type 0 where
  pub off : is_armed (mark_of R x) ≡ false
  pub cancelled : is_cancelled R x ≡ true
  pub there : x < length R.all

goes_more : (m c b n d v : Bool) (R : Requests) (x : ℕ) → (is_armed (mark_of R x) ≡ true → m ≡ true → n ≡ true) → (c ≡ true → d ≡ true) → (v ≡ true → (b ≡ true) ⊎ Begun R x)
    → GoesAt m c b R x → GoesAt n d v R x
goes_more m c b n d v R x h l w g = record {
  goes = record {
    told = told_more m c n d (mark_of R x) h l g.goes.told;
    owned = g.goes.owned;
    due = g.goes.due;
    begun = λ e. elim (w e) [
      | inl a ↦ g.goes.begun a
      | inr a ↦ (a.off, inl a.cancelled)
    ];
  };
  there = λ e. elim (w e) [
    | inl a ↦ g.there a
    | inr a ↦ a.there
  ];
}

still_stands : (s m u a : Bool) → a ≡ true → (u ≡ true → a ≡ false) → m ≡ true → (s || (m && not u)) ≡ true
still_stands s m true a h off t = absurd (let n = off refl in let z : ⊥ = cc in z)
still_stands s m false a h off t = second s (m && true) (rw t refl)

-- the same requests, after one event more
pub next_goes : (es : List Event) (e : Event) (R : Requests) (x : ℕ) → (shows (sign.MarkUndone x) e ≡ true → is_armed (mark_of R x) ≡ false) → (shows (sign.CancelBegins x) e ≡ true → Begun R x)
    → GoesAt (marks_stand x es) (was_posted x es) (has_begun x es) R x → GoesAt (marks_stand x (es ++ e ∷ [])) (was_posted x (es ++ e ∷ [])) (has_begun x (es ++ e ∷ [])) R x
next_goes es e R x off begins g =
    goes_more (marks_stand x es) (was_posted x es) (has_begun x es) (marks_stand x (es ++ e ∷ [])) (was_posted x (es ++ e ∷ [])) (has_begun x (es ++ e ∷ [])) R x
    (λ a t. stands_next (sign.Marked x) (sign.MarkUndone x) es e ∙ still_stands (shows (sign.Marked x) e) (marks_stand x es) (shows (sign.MarkUndone x) e) (is_armed (mark_of R x)) a off t)
    (λ t. ever_next (sign.CancelPosted x) es e ∙ first (was_posted x es) (shows (sign.CancelPosted x) e) t)
    (λ t. elim (or_cases (has_begun x es) (shows (sign.CancelBegins x) e) (sym (ever_next (sign.CancelBegins x) es e) ∙ t)) [
      | inl a ↦ inl a
      | inr a ↦ inr (begins a)
    ])
    g

-- requests that still go, after one event more
pub all_next : (es : List Event) (e : Event) (R U : Requests) → StillGoes R U → ((x : ℕ) → shows (sign.MarkUndone x) e ≡ true → is_armed (mark_of U x) ≡ false) → ((x : ℕ) → shows (sign.CancelBegins x) e ≡ true → Begun U x)
    → AllGo es R → AllGo (es ++ e ∷ []) U
all_next es e R U still off begins g x = next_goes es e U x (off x) (begins x) (still (marks_stand x es) (was_posted x es) (has_begun x es) x (g x))

-- ---- calls

-- an argument that is no object where a call asks for one is a fault
named_by : (v : View) (s : Sort) (a : Arg) → is_object_sort s ≡ true → is_wrong_kind v s a ≡ false → argument_object a ≡ Some (object_in a)
named_by v s (Val (Obj h)) o w = refl
named_by v s _ o w = absurd (let z : ⊥ = cc in z)

pub named : (v : View) (c : Call) → is_object_sort (signature_of c.kind).a ≡ true → is_wrong_kind v (signature_of c.kind).a c.a ≡ false → argument_object c.a ≡ Some (object_in c.a)
named v c o w = named_by v (signature_of c.kind).a c.a o w

-- the request that is told is the argument's
pub where_told : (x : ℕ) (b : Bool) (a : Arg) → is_id x (where_so b (argument_object a)) ≡ true → (b ≡ true) × (x ≡ object_in a)
where_told x true (Val (Obj h)) e = (refl, sym (eqb-true h.id.0 x e))
where_told x true (Val (Num n)) e = absurd (let z : ⊥ = cc in z)
where_told x true (Val (Stat s)) e = absurd (let z : ⊥ = cc in z)
where_told x true (Class c) e = absurd (let z : ⊥ = cc in z)
where_told x false a e = absurd (let z : ⊥ = cc in z)

marked_by : (m c b : Bool) (q : Request) (u : Bool) → q.info.cancelled ≡ u → (u ≡ false → m ≡ true) → is_owned q.place ≡ true → GoesOf m c b q → GoesOf m c b (if u then q else with_mark marks.Marked q)
marked_by m c b q true e h owned g = g
marked_by m c b q false e h owned g = record {
  told = h refl;
  owned = λ _. owned;
  due = λ d. absurd (let z : ⊥ = cc in z);
  begun = λ t. absurd (elim (g.begun t).1 [
    | inl y ↦ let z : ⊥ = cc in z
    | inr y ↦ let n = owned_undone q.place owned in let z : ⊥ = cc in z
  ]);
}

well_marked : (u : Bool) → u ≡ false → is_success (Stat (if u then status.Cancelled else status.Success)) ≡ true
well_marked true e = absurd (let z : ⊥ = cc in z)
well_marked false e = refl

module _ {A : Type 0} (plan : Plan) (es : List Event) (S : State A) (cpu : Cpu) (n : ℕ) (a b x : Arg) where
  marks_one : (v : Value) → v ≡ Stat (mark_answer S.requests (object_in a)) → argument_object a ≡ Some (object_in a) → is_owned (place_of S.requests (object_in a)) ≡ true → AllGo es S.requests
      → AllGo (es ++ event.Did cpu (call_of call.WdfRequestMarkCancelableEx n a b x) v ∷ []) (requests.mark S.requests (object_in a))
  marks_one v answer it owned g y =
      let e : Event = event.Did cpu (call_of call.WdfRequestMarkCancelableEx n a b x) v in
      let r : ℕ = object_in a in
      let R : Requests = S.requests in
      let same : GoesAt (marks_stand y (es ++ e ∷ [])) (was_posted y (es ++ e ∷ [])) (has_begun y (es ++ e ∷ [])) R y =
      next_goes es e R y (λ t. absurd (let no_ = where_told y false a t in let z : ⊥ = cc in z)) (λ t. absurd (let z : ⊥ = cc in z)) (g y) in
      elim (one_or_two y r) [
        | inl at ↦
            one_at R r (marked (request_of R r)) (marks_stand y (es ++ e ∷ [])) (was_posted y (es ++ e ∷ [])) (has_begun y (es ++ e ∷ []))
            (marked_by (marks_stand y (es ++ e ∷ [])) (was_posted y (es ++ e ∷ [])) (has_begun y (es ++ e ∷ [])) (request_of R r) (is_cancelled R r) refl
            (λ off. stands_next (sign.Marked y) (sign.MarkUndone y) es e ∙ first (shows (sign.Marked y) e) _ (shown v r y answer it at off))
            owned (subst (λ (w : ℕ). GoesOf (marks_stand y (es ++ e ∷ [])) (was_posted y (es ++ e ∷ [])) (has_begun y (es ++ e ∷ [])) (request_of R w)) at same.goes))
            y at same
        | inr apart ↦ others_at R r (marked (request_of R r)) (marks_stand y (es ++ e ∷ [])) (was_posted y (es ++ e ∷ [])) (has_begun y (es ++ e ∷ [])) y apart same
      ]
    where
      shown : (w : Value) (r y : ℕ) → w ≡ Stat (mark_answer S.requests (object_in a)) → argument_object a ≡ Some (object_in a) → y ≡ object_in a → is_cancelled S.requests (object_in a) ≡ false
          → shows (sign.Marked y) (event.Did cpu (call_of call.WdfRequestMarkCancelableEx n a b x) w) ≡ true
      shown w r y answer it at off =
          let well : is_success w ≡ true = ap is_success answer ∙ well_marked (is_cancelled S.requests (object_in a)) off in
          ap (λ (t : Bool). is_id y (where_so t (argument_object a))) well ∙ ap (is_id y) it ∙ rw at (itself (object_in a))

  marks_by : (u : Bool) (v : Value) → v ≡ (if u then record { answer = Stat (mark_answer S.requests (object_in a)); deeds = MarkRequest (object_id (object_in a)) ∷ [] } else refused status.InvalidDeviceRequest).answer
      → argument_object a ≡ Some (object_in a) → is_owned (place_of S.requests (object_in a)) ≡ true → AllGo es S.requests
      → AllGo (es ++ event.Did cpu (call_of call.WdfRequestMarkCancelableEx n a b x) v ∷ [])
      (do_deeds plan (if u then record { answer = Stat (mark_answer S.requests (object_in a)); deeds = MarkRequest (object_id (object_in a)) ∷ [] } else refused status.InvalidDeviceRequest).deeds S).requests
  marks_by true v answer it owned g = marks_one v answer it owned g
  marks_by false v answer it owned g =
      all_next es (event.Did cpu (call_of call.WdfRequestMarkCancelableEx n a b x) v) S.requests S.requests (λ m c z y h. h)
      (λ y t. absurd (let no_ = where_told y false a t in let z : ⊥ = cc in z)) (λ y t. absurd (let z : ⊥ = cc in z)) g

-- a call that isn't a marking
given_goes : {A : Type 0} (plan : Plan) (es : List Event) (S : State A) (cpu : Cpu) (c : Call) (o : Outcome) (v : Value) → v ≡ o.answer → Gives plan S o (object_in c.a) (is_undoing c) → AllGo es S.requests
    → AllGo (es ++ event.Did cpu c v ∷ []) (do_deeds plan o.deeds S).requests
given_goes plan es S cpu c o v answer gives g =
    all_next es (event.Did cpu c v) S.requests (do_deeds plan o.deeds S).requests gives.still
    (λ x t.
    let parts = where_told x (is_undoing c v) c.a t in
    let off : is_armed (mark_of (do_deeds plan o.deeds S).requests (object_in c.a)) ≡ false = gives.off (sym (ap (is_undoing c) answer) ∙ parts.0) in
    subst (λ (y : ℕ). is_armed (mark_of (do_deeds plan o.deeds S).requests y) ≡ false) (sym parts.1) off)
    (λ x t. absurd (let z : ⊥ = cc in z)) g

abbrev DidGoes : {A : Type 0} → Plan → List Event → State A → Cpu → ℕ → CallKind → Type 0
DidGoes plan es S cpu f k =
    (n : ℕ) (a b x : Arg) (v : Value) → Clean plan S cpu.0 f (call_of k n a b x) → v ≡ (outcome plan S cpu.0 f (call_of k n a b x)).answer → AllGo es S.requests
    → AllGo (es ++ event.Did cpu (call_of k n a b x) v ∷ []) (do_deeds plan (outcome plan S cpu.0 f (call_of k n a b x)).deeds S).requests

did_mark : {A : Type 0} (plan : Plan) (es : List Event) (S : State A) (cpu : Cpu) (f : ℕ) → DidGoes plan es S cpu f call.WdfRequestMarkCancelableEx
did_mark plan es S cpu f n a b x v clean answer g =
    marks_by plan es S cpu n a b x (declares plan callback.EvtRequestCancel (origin_or_none S (object_in a))) v answer
    (named (view_of plan S cpu.0 f) (call_of call.WdfRequestMarkCancelableEx n a b x) refl (wrong_kind_of_first (view_of plan S cpu.0 f) (call_of call.WdfRequestMarkCancelableEx n a b x) (clean fault.WrongKind)))
    (not_false (is_owned (place_of S.requests (object_in a))) (clean fault.NotOwned)) g

pub did_goes : {A : Type 0} {F B : ℕ → Bool} (plan : Plan) (es : List Event) (S : State A) (cpu : Cpu) (f : ℕ) (k : CallKind) → KeptIn F B S → DidGoes plan es S cpu f k
did_goes plan es S cpu f k kept = elim (cases_Bool (same_call_kind k call.WdfRequestMarkCancelableEx)) [
  | inl e ↦ subst (DidGoes plan es S cpu f) (sym ((call_kind_decides k call.WdfRequestMarkCancelableEx).0 e)) (did_mark plan es S cpu f)
  | inr e ↦ λ n a b x v clean answer g.
      given_goes plan es S cpu (call_of k n a b x) (outcome plan S cpu.0 f (call_of k n a b x)) v answer (each_gives plan S cpu.0 f k n a b x e clean (outcome_fits plan S cpu.0 f k n a b x clean) kept) g
]
