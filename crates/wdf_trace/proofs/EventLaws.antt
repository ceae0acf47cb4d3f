-- Each event is read back from its words.
use Rattle.std.proofs.Common.{◌≡◌, ℕ, ◌<◌, ◌≤◌, ◌^◌, true, List, [], ◌∷◌, length, Option, Some, None, unwrap_or, refl, sym, ap, ◌∙◌, arith, codes, decimal, append-nil, inl, inr}
use Rattle.std.proofs.lemmas.Bool.{both_ways}
use Rattle.wdf_base.specs.declared.plan.Plan.{Plan}
use Rattle.wdf_base.specs.declared.ids.Handle.{Handle}
use Rattle.wdf_base.specs.declared.ids.Cpu.{Cpu}
use Rattle.wdf_base.specs.declared.ids.FrameId.{FrameId}
use Rattle.wdf_base.specs.declared.call.Call.{Call}
use Rattle.wdf_base.specs.declared.call.Callback.{Callback}
use Rattle.wdf_base.specs.declared.event.Access.{Access}
use Rattle.wdf_base.specs.declared.event.Access.TheVariants as access
use Rattle.wdf_base.specs.declared.event.Action.{Action}
use Rattle.wdf_base.specs.declared.event.Action.TheVariants as action
use Rattle.wdf_base.specs.declared.event.Ask.{Ask}
use Rattle.wdf_base.specs.declared.event.Ask.TheVariants as ask
use Rattle.wdf_base.specs.declared.event.Post.{Post}
use Rattle.wdf_base.specs.declared.event.Post.TheVariants as post
use Rattle.wdf_base.specs.declared.event.Event.{Event}
use Rattle.wdf_base.specs.declared.event.Event.TheVariants as event
use Rattle.wdf_base.specs.declared.event.Fault.TheVariants as fault
use Rattle.wdf_base.specs.declared.event.Stage.{Stage}
use Rattle.wdf_base.specs.declared.event.Stage.TheVariants as stage
use Rattle.wdf_base.specs.declared.value.Status.TheVariants as status
use Rattle.wdf_base.specs.declared.call.Callback.TheVariants as callback
use Rattle.wdf_base.specs.Words.{callback_word, callback_of, call_word, ask_word, stage_word}
use Rattle.wdf_base.proofs.WordLaws.{callback-back, callback-only, status-back, fault-back, stage-back}
use Rattle.wdf_lines.specs.Lines.{cpu_text, object_text, value_text, argument_words, answered_words, access_words, optional_words, answer_text, action_words, agent_text, post_words, event_words, line_text}
use Rattle.wdf_trace.specs.Reading.{word, words, number_of, short_of, object_of, has_dot}
use Rattle.wdf_trace.specs.Told.{call_in, answer_in, optional_of, answer_of, callback_named, start_with, callback_in, event_in}
use Rattle.wdf_trace.specs.Events.{IsHandleOf, IsOptionalOf, IsValueOf, IsCallOf, IsActionOf, IsPostOf, IsEventOf}
use Rattle.wdf_trace.proofs.AgentLaws.{agent_of-agent_text, agent_lacks}
use Rattle.wdf_trace.proofs.Blanks.{Lacks, AllLack, words_spaced}
use Rattle.wdf_trace.proofs.CallLaws.{AllLack_append, arguments_lack, call_in-words, answer_in-words}
use Rattle.wdf_trace.proofs.Decimals.{Lacks_decimal, number_of-decimal, short_of-decimal}
use Rattle.wdf_trace.proofs.NameLaws.{HasNames, register_of-register_text}
use Rattle.wdf_trace.proofs.ValueLaws.{ap2, ap3, ap4, cases_of, cpu_of-cpu_text, object_of-object_text, has_dot-object_text, object_lacks, value_of-value_text, value_lacks, optional_of-object_text, answer_of-answer_text, answer_lacks, register_lacks}
use Rattle.wdf_trace.proofs.WordLaws.{status_word_lacks, callback_word_lacks, call_word_lacks, fault_word_lacks, stage_word_lacks, ask_word_lacks, callback_word_no_dot}

-- ---- no word of an event has a blank

cpu_lacks : (cpu : Cpu) → cpu.0 < 2 ^ 8 → Lacks 32 (cpu_text cpu)
cpu_lacks cpu h =
    let wide : cpu.0 < 2 ^ 64 = omega arith in
    record { each = (Lacks_decimal 32 cpu.0 refl wide).each }

pub digits_lack : (n : ℕ) → n < 2 ^ 64 → Lacks 32 (decimal n)
digits_lack n h = Lacks_decimal 32 n refl h

pub short_lacks : (n : ℕ) → n < 2 ^ 32 → Lacks 32 (decimal n)
short_lacks n h = Lacks_decimal 32 n refl (omega arith)

optional_lacks : (plan : Plan) → HasNames plan → (o : Option Handle) → IsOptionalOf plan o → AllLack 32 (optional_words plan o)
optional_lacks plan h None v = tt
optional_lacks plan h (Some o) v = (object_lacks plan h o v, tt)

action_lacks : (plan : Plan) → HasNames plan → (a : Action) → IsActionOf plan a → AllLack 32 (action_words plan a)
action_lacks plan h (action.Set r n) v = (record { each = refl }, (register_lacks plan h r v.0, (digits_lack n v.1, tt)))
action_lacks plan h (action.Raise i) v = (record { each = refl }, (object_lacks plan h i v, tt))
action_lacks plan h (action.Lower i) v = (record { each = refl }, (object_lacks plan h i v, tt))

post_lacks : (plan : Plan) → HasNames plan → (p : Post) (a : Option Handle) → IsPostOf plan p a → AllLack 32 (post_words plan p a)
post_lacks plan h (post.Read d n) a v = (record { each = refl }, (object_lacks plan h d v.0, (digits_lack n v.1, (record { each = refl }, (answer_lacks plan h a v.2, tt)))))
post_lacks plan h (post.Write d n) a v = (record { each = refl }, (object_lacks plan h d v.0, (digits_lack n v.1, (record { each = refl }, (answer_lacks plan h a v.2, tt)))))
post_lacks plan h (post.Control d c n) a v =
    (record { each = refl }, (object_lacks plan h d v.0, (digits_lack c v.1, (digits_lack n v.2, (record { each = refl }, (answer_lacks plan h a v.3, tt))))))
post_lacks plan h (post.Cancel k) a v = (record { each = refl }, (digits_lack k v.0, (record { each = refl }, (answer_lacks plan h a v.1, tt))))
post_lacks plan h (post.Ask ask d) a v = (ask_word_lacks ask, (object_lacks plan h d v.0, tt))
post_lacks plan h (post.Act act) a v = action_lacks plan h act v.0
post_lacks plan h (post.Done r s) a v = (record { each = refl }, (object_lacks plan h r v.0, (status_word_lacks s, tt)))

answered_lacks : (plan : Plan) → HasNames plan → (c : Call) → IsCallOf plan c → (x : _) → IsValueOf plan x → AllLack 32 (answered_words plan c x)
answered_lacks plan h c v x valid =
    (call_word_lacks c.kind, AllLack_append 32 (argument_words plan c) (codes "->" ∷ value_text plan x ∷ []) (arguments_lack plan h c v) (record { each = refl }, (value_lacks plan h x valid, tt)))

access_lacks : (plan : Plan) → HasNames plan → (a : Access) (r n : ℕ) → r < length plan.registers → n < 2 ^ 64 → AllLack 32 (access_words plan a r n)
access_lacks plan h access.Read r n v w = (record { each = refl }, (register_lacks plan h r v, (record { each = refl }, (digits_lack n w, tt))))
access_lacks plan h access.Write r n v w = (record { each = refl }, (register_lacks plan h r v, (digits_lack n w, tt)))

pub event_lacks : (plan : Plan) → HasNames plan → (e : Event) → IsEventOf plan e → AllLack 32 (event_words plan e)
event_lacks plan h (event.Start cpu c o r) v = (cpu_lacks cpu v.0, (record { each = refl }, (callback_word_lacks c, (object_lacks plan h o v.1, optional_lacks plan h r v.2))))
event_lacks plan h (event.Local cpu line) v = (cpu_lacks cpu v.0, (record { each = refl }, (short_lacks line v.1, tt)))
event_lacks plan h (event.Log cpu x) v = (cpu_lacks cpu v.0, (record { each = refl }, (value_lacks plan h x v.1, tt)))
event_lacks plan h (event.Spend cpu n) v = (cpu_lacks cpu v.0, (record { each = refl }, (digits_lack n v.1, tt)))
event_lacks plan h (event.Register cpu a r n) v = (cpu_lacks cpu v.0, access_lacks plan h a r n v.1 v.2)
event_lacks plan h (event.Did cpu c x) v = (cpu_lacks cpu v.0, (record { each = refl }, answered_lacks plan h c v.1 x v.2))
event_lacks plan h (event.Waiting cpu c) v = (cpu_lacks cpu v.0, (record { each = refl }, (call_word_lacks c.kind, arguments_lack plan h c v.1)))
event_lacks plan h (event.Woke cpu c x) v = (cpu_lacks cpu v.0, (record { each = refl }, answered_lacks plan h c v.1 x v.2))
event_lacks plan h (event.Park cpu f) v = (cpu_lacks cpu v.0, (record { each = refl }, (short_lacks f.0 v.1, tt)))
event_lacks plan h (event.Unpark cpu f) v = (cpu_lacks cpu v.0, (record { each = refl }, (short_lacks f.0 v.1, tt)))
event_lacks plan h (event.End cpu c o x) v = (cpu_lacks cpu v.0, (record { each = refl }, (callback_word_lacks c, (object_lacks plan h o v.1, (value_lacks plan h x v.2, tt)))))
event_lacks plan h (event.Fault cpu f line) v = (cpu_lacks cpu v.0, (record { each = refl }, (fault_word_lacks f, (short_lacks line v.1, tt))))
event_lacks plan h (event.Stage d s i) v = (record { each = refl }, (record { each = refl }, (object_lacks plan h d v.0, (stage_word_lacks s, optional_lacks plan h i v.1))))
event_lacks plan h (event.Complete r s) v = (record { each = refl }, (record { each = refl }, (object_lacks plan h r v, (status_word_lacks s, tt))))
event_lacks plan h (event.Cleanup o) v = (record { each = refl }, (record { each = refl }, (object_lacks plan h o v, tt)))
event_lacks plan h (event.Destroy o) v = (record { each = refl }, (record { each = refl }, (object_lacks plan h o v, tt)))
event_lacks plan h (event.Posted agent p a) v = (agent_lacks plan h agent v.0, post_lacks plan h p a v.1)
event_lacks plan h (event.Tick n) v = (record { each = refl }, (record { each = refl }, (digits_lack n v, tt)))

-- ---- each event is told by its words

pub callback_named-word : (c : Callback) → callback_named (callback_word c) ≡ Some c
unfolding callback_named
callback_named-word c = callback-back c

pub callback_in-word : (c : Callback) → callback_in (callback_word c) ≡ c
unfolding callback_in
callback_in-word c = ap (λ o. unwrap_or o callback.EvtIoRead) (callback-back c)

-- a word with a dot names no callback
callback_named-dot : (w : List ℕ) → has_dot w ≡ true → callback_named w ≡ None
unfolding callback_named
callback_named-dot w dot =
    elim (cases_of (callback_of w)) [
      | inl e ↦ e
      | inr p ↦ absurd (both_ways (has_dot w) (ap has_dot (sym (callback-only p.0 w p.1)) ∙ callback_word_no_dot p.0) dot)
    ]

optional_back : (plan : Plan) → HasNames plan → (o : Option Handle) → IsOptionalOf plan o → optional_of plan (word 0 (optional_words plan o)) ≡ o
optional_back plan h None v = refl
optional_back plan h (Some o) v = optional_of-object_text plan h o v

start_back : (plan : Plan) → HasNames plan → (n : List ℕ) (cpu : Cpu) (c : Callback) (o : Handle) (r : Option Handle) → IsEventOf plan (event.Start cpu c o r) → event_in plan (n ∷ event_words plan (event.Start cpu c o r)) ≡ event.Start cpu c o r
start_back plan h n cpu c o r v =
    ap (start_with plan (n ∷ event_words plan (event.Start cpu c o r))) (callback_named-word c)
    ∙ ap3 (λ x y z. event.Start x c y z) (cpu_of-cpu_text cpu v.0) (object_of-object_text plan h o v.1) (optional_back plan h r v.2)

frame_back : (f : FrameId) → f.0 < 2 ^ 32 → (make : FrameId → Event) → make (record { 0 = short_of (decimal f.0) }) ≡ make f
frame_back f v make = ap (λ n. make (record { 0 = n })) (short_of-decimal f.0 v)

access_back : (plan : Plan) → HasNames plan → (n : List ℕ) (cpu : Cpu) (a : Access) (r k : ℕ) → IsEventOf plan (event.Register cpu a r k) → event_in plan (n ∷ event_words plan (event.Register cpu a r k)) ≡ event.Register cpu a r k
access_back plan h n cpu access.Read r k v = ap3 (λ x y z. event.Register x access.Read y z) (cpu_of-cpu_text cpu v.0) (register_of-register_text plan h r v.1) (number_of-decimal k v.2)
access_back plan h n cpu access.Write r k v = ap3 (λ x y z. event.Register x access.Write y z) (cpu_of-cpu_text cpu v.0) (register_of-register_text plan h r v.1) (number_of-decimal k v.2)

did_back : (plan : Plan) → HasNames plan → (n : List ℕ) (cpu : Cpu) (c : Call) (x : _) → IsEventOf plan (event.Did cpu c x) → event_in plan (n ∷ event_words plan (event.Did cpu c x)) ≡ event.Did cpu c x
did_back plan h n cpu c x v =
    let e = call_in-words plan h c v.1 n (cpu_text cpu) (codes "call") (codes "->" ∷ value_text plan x ∷ []) in
    ap3 event.Did (cpu_of-cpu_text cpu v.0) e
    (ap (λ d. answer_in plan d (n ∷ event_words plan (event.Did cpu c x))) e ∙ answer_in-words plan h c v.1 x v.2 n (cpu_text cpu) (codes "call"))

woke_back : (plan : Plan) → HasNames plan → (n : List ℕ) (cpu : Cpu) (c : Call) (x : _) → IsEventOf plan (event.Woke cpu c x) → event_in plan (n ∷ event_words plan (event.Woke cpu c x)) ≡ event.Woke cpu c x
woke_back plan h n cpu c x v =
    let e = call_in-words plan h c v.1 n (cpu_text cpu) (codes "woke") (codes "->" ∷ value_text plan x ∷ []) in
    ap3 event.Woke (cpu_of-cpu_text cpu v.0) e
    (ap (λ d. answer_in plan d (n ∷ event_words plan (event.Woke cpu c x))) e ∙ answer_in-words plan h c v.1 x v.2 n (cpu_text cpu) (codes "woke"))

wait_back : (plan : Plan) → HasNames plan → (n : List ℕ) (cpu : Cpu) (c : Call) → IsEventOf plan (event.Waiting cpu c) → event_in plan (n ∷ event_words plan (event.Waiting cpu c)) ≡ event.Waiting cpu c
wait_back plan h n cpu c v =
    ap2 event.Waiting (cpu_of-cpu_text cpu v.0)
    (ap (λ ws. call_in plan (n ∷ cpu_text cpu ∷ codes "wait" ∷ call_word c.kind ∷ ws)) (sym (append-nil (argument_words plan c)))
    ∙ call_in-words plan h c v.1 n (cpu_text cpu) (codes "wait") [])

-- ---- posts

ask_back : (plan : Plan) → HasNames plan → (n : List ℕ) (agent : ℕ) (a : Ask) (d : Handle) → agent ≤ length plan.agents → IsHandleOf plan d → event_in plan (n ∷ agent_text plan agent ∷ ask_word a ∷ object_text plan d ∷ []) ≡ event.Posted agent (post.Ask a d) None
ask_back plan h n agent ask.Start d v w =
    ap (start_with plan (n ∷ agent_text plan agent ∷ codes "start" ∷ object_text plan d ∷ [])) (callback_named-dot (object_text plan d) (has_dot-object_text plan d))
    ∙ ap2 (λ x y. event.Posted x (post.Ask ask.Start y) None) (agent_of-agent_text plan h agent v) (object_of-object_text plan h d w)
ask_back plan h n agent ask.Sleep d v w = ap2 (λ x y. event.Posted x (post.Ask ask.Sleep y) None) (agent_of-agent_text plan h agent v) (object_of-object_text plan h d w)
ask_back plan h n agent ask.Wake d v w = ap2 (λ x y. event.Posted x (post.Ask ask.Wake y) None) (agent_of-agent_text plan h agent v) (object_of-object_text plan h d w)
ask_back plan h n agent ask.Rebalance d v w = ap2 (λ x y. event.Posted x (post.Ask ask.Rebalance y) None) (agent_of-agent_text plan h agent v) (object_of-object_text plan h d w)
ask_back plan h n agent ask.Remove d v w = ap2 (λ x y. event.Posted x (post.Ask ask.Remove y) None) (agent_of-agent_text plan h agent v) (object_of-object_text plan h d w)
ask_back plan h n agent ask.Surprise d v w = ap2 (λ x y. event.Posted x (post.Ask ask.Surprise y) None) (agent_of-agent_text plan h agent v) (object_of-object_text plan h d w)

action_back : (plan : Plan) → HasNames plan → (n : List ℕ) (agent : ℕ) (a : Action) → agent ≤ length plan.agents → IsActionOf plan a → event_in plan (n ∷ agent_text plan agent ∷ action_words plan a) ≡ event.Posted agent (post.Act a) None
action_back plan h n agent (action.Set r k) v w = ap3 (λ x y z. event.Posted x (post.Act (action.Set y z)) None) (agent_of-agent_text plan h agent v) (register_of-register_text plan h r w.0) (number_of-decimal k w.1)
action_back plan h n agent (action.Raise i) v w = ap2 (λ x y. event.Posted x (post.Act (action.Raise y)) None) (agent_of-agent_text plan h agent v) (object_of-object_text plan h i w)
action_back plan h n agent (action.Lower i) v w = ap2 (λ x y. event.Posted x (post.Act (action.Lower y)) None) (agent_of-agent_text plan h agent v) (object_of-object_text plan h i w)

post_back : (plan : Plan) → HasNames plan → (n : List ℕ) (agent : ℕ) (p : Post) (a : Option Handle) → agent ≤ length plan.agents → IsPostOf plan p a → event_in plan (n ∷ agent_text plan agent ∷ post_words plan p a) ≡ event.Posted agent p a
post_back plan h n agent (post.Read d k) a v w = ap4 (λ x y z t. event.Posted x (post.Read y z) t) (agent_of-agent_text plan h agent v) (object_of-object_text plan h d w.0) (number_of-decimal k w.1) (answer_of-answer_text plan h a w.2)
post_back plan h n agent (post.Write d k) a v w = ap4 (λ x y z t. event.Posted x (post.Write y z) t) (agent_of-agent_text plan h agent v) (object_of-object_text plan h d w.0) (number_of-decimal k w.1) (answer_of-answer_text plan h a w.2)
post_back plan h n agent (post.Control d c k) a v w =
    ap (λ x. event.Posted x (post.Control (object_of plan (object_text plan d)) (number_of (decimal c)) (number_of (decimal k))) (answer_of plan (answer_text plan a))) (agent_of-agent_text plan h agent v)
    ∙ ap4 (λ x y z t. event.Posted agent (post.Control x y z) t) (object_of-object_text plan h d w.0) (number_of-decimal c w.1) (number_of-decimal k w.2) (answer_of-answer_text plan h a w.3)
post_back plan h n agent (post.Cancel k) a v w = ap3 (λ x y z. event.Posted x (post.Cancel y) z) (agent_of-agent_text plan h agent v) (number_of-decimal k w.0) (answer_of-answer_text plan h a w.1)
post_back plan h n agent (post.Ask ask d) a v w = ask_back plan h n agent ask d v w.0 ∙ ap (event.Posted agent (post.Ask ask d)) (sym w.1)
post_back plan h n agent (post.Act act) a v w = action_back plan h n agent act v w.0 ∙ ap (event.Posted agent (post.Act act)) (sym w.1)
post_back plan h n agent (post.Done r s) a v w =
    ap3 (λ x y z. event.Posted x (post.Done y z) None) (agent_of-agent_text plan h agent v) (object_of-object_text plan h r w.0) (ap (λ o. unwrap_or o status.Success) (status-back s)) ∙ ap (event.Posted agent (post.Done r s)) (sym w.1)

-- ---- the whole

pub event_back : (plan : Plan) → HasNames plan → (n : List ℕ) (e : Event) → IsEventOf plan e → event_in plan (n ∷ event_words plan e) ≡ e
event_back plan h n (event.Start cpu c o r) v = start_back plan h n cpu c o r v
event_back plan h n (event.Local cpu line) v = ap2 event.Local (cpu_of-cpu_text cpu v.0) (short_of-decimal line v.1)
event_back plan h n (event.Log cpu x) v = ap2 event.Log (cpu_of-cpu_text cpu v.0) (value_of-value_text plan h x v.1)
event_back plan h n (event.Spend cpu k) v = ap2 event.Spend (cpu_of-cpu_text cpu v.0) (number_of-decimal k v.1)
event_back plan h n (event.Register cpu a r k) v = access_back plan h n cpu a r k v
event_back plan h n (event.Did cpu c x) v = did_back plan h n cpu c x v
event_back plan h n (event.Waiting cpu c) v = wait_back plan h n cpu c v
event_back plan h n (event.Woke cpu c x) v = woke_back plan h n cpu c x v
event_back plan h n (event.Park cpu f) v = ap (λ x. event.Park x (record { 0 = short_of (decimal f.0) })) (cpu_of-cpu_text cpu v.0) ∙ frame_back f v.1 (event.Park cpu)
event_back plan h n (event.Unpark cpu f) v = ap (λ x. event.Unpark x (record { 0 = short_of (decimal f.0) })) (cpu_of-cpu_text cpu v.0) ∙ frame_back f v.1 (event.Unpark cpu)
event_back plan h n (event.End cpu c o x) v = ap4 event.End (cpu_of-cpu_text cpu v.0) (callback_in-word c) (object_of-object_text plan h o v.1) (value_of-value_text plan h x v.2)
event_back plan h n (event.Fault cpu f line) v = ap3 event.Fault (cpu_of-cpu_text cpu v.0) (ap (λ o. unwrap_or o fault.ScriptError) (fault-back f)) (short_of-decimal line v.1)
event_back plan h n (event.Stage d s i) v = ap3 event.Stage (object_of-object_text plan h d v.0) (ap (λ o. unwrap_or o stage.Working) (stage-back s)) (optional_back plan h i v.1)
event_back plan h n (event.Complete r s) v = ap2 event.Complete (object_of-object_text plan h r v) (ap (λ o. unwrap_or o status.Success) (status-back s))
event_back plan h n (event.Cleanup o) v = ap event.Cleanup (object_of-object_text plan h o v)
event_back plan h n (event.Destroy o) v = ap event.Destroy (object_of-object_text plan h o v)
event_back plan h n (event.Posted agent p a) v = post_back plan h n agent p a v.0 v.1
event_back plan h n (event.Tick k) v = ap event.Tick (number_of-decimal k v)

-- the words of a line
pub line_words : (plan : Plan) → HasNames plan → (number : ℕ) (e : Event) → number < 2 ^ 64 → IsEventOf plan e → words (line_text plan number e) ≡ decimal number ∷ event_words plan e
line_words plan h number e small v = words_spaced (decimal number) (event_words plan e) (digits_lack number small) (event_lacks plan h e v)

-- the number of a line
pub line_number : (plan : Plan) → HasNames plan → (number : ℕ) (e : Event) → number < 2 ^ 64 → IsEventOf plan e → number_of (word 0 (words (line_text plan number e))) ≡ number
line_number plan h number e small v = ap (λ ws. number_of (word 0 ws)) (line_words plan h number e small v) ∙ number_of-decimal number small

-- the event of a line
pub line_event : (plan : Plan) → HasNames plan → (number : ℕ) (e : Event) → number < 2 ^ 64 → IsEventOf plan e → event_in plan (words (line_text plan number e)) ≡ e
line_event plan h number e small v = ap (event_in plan) (line_words plan h number e small v) ∙ event_back plan h (decimal number) e v

-- what is read loosely from the line of an event is that event with its number
pub read_each : (plan : Plan) → HasNames plan → (text : List ℕ) (k : ℕ) (e : Event) → k ≡ number_of (word 0 (words text)) → e ≡ event_in plan (words text) → (number : ℕ) (event : Event) → number < 2 ^ 64 → IsEventOf plan event → line_text plan number event ≡ text → (k ≡ number) × (e ≡ event)
read_each plan h text k e is_number is_event number event small v same = (
  is_number ∙ ap (λ t. number_of (word 0 (words t))) (sym same) ∙ line_number plan h number event small v,
  is_event ∙ ap (λ t. event_in plan (words t)) (sym same) ∙ line_event plan h number event small v,
)

-- the word of a stage is that of no callback
pub callback_named-stage : (s : Stage) → callback_named (stage_word s) ≡ None
unfolding callback_named
callback_named-stage stage.Hardware = refl
callback_named-stage _ = refl
