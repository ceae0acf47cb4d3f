-- No line's text has a line feed.
use Rattle.std.proofs.Common.{◌≡◌, ℕ, zero, suc, ◌+◌, ◌/◌, ◌%◌, ◌==◌, Bool, true, false, not, List, [], ◌∷◌, ◌++◌, take, get_or, Option, Some, None, nat_lt, codes, decimal, position, option_map, slice_get, refl, if◌then◌else◌, arith}
use Rattle.std.specs.List.{list_all}
use Rattle.std.specs.Fmt.{digit_glyph, digits_onto, digits}
use Rattle.std.proofs.lemmas.Bool.{and_parts, and_from, not_from_false, ne_eqb}
use Rattle.wdf_base.specs.declared.plan.Plan.{Plan}
use Rattle.wdf_base.specs.declared.ids.Handle.{Handle}
use Rattle.wdf_base.specs.declared.ids.Cpu.{Cpu}
use Rattle.wdf_base.specs.declared.value.Value.{Value}
use Rattle.wdf_base.specs.declared.value.Value.TheVariants.{Num, Obj, Stat}
use Rattle.wdf_base.specs.declared.call.Arg.{Arg}
use Rattle.wdf_base.specs.declared.call.Arg.TheVariants.{Val, Class}
use Rattle.wdf_base.specs.declared.call.Call.{Call}
use Rattle.wdf_base.specs.declared.event.Access.{Access}
use Rattle.wdf_base.specs.declared.event.Access.TheVariants as access
use Rattle.wdf_base.specs.declared.event.Action.{Action}
use Rattle.wdf_base.specs.declared.event.Action.TheVariants as action
use Rattle.wdf_base.specs.declared.event.Post.{Post}
use Rattle.wdf_base.specs.declared.event.Post.TheVariants as post
use Rattle.wdf_base.specs.declared.event.Event.{Event}
use Rattle.wdf_base.specs.declared.event.Event.TheVariants as event
use Rattle.wdf_base.specs.declared.event.Ending.{Ending}
use Rattle.wdf_base.specs.declared.event.Ending.TheVariants as ending
use Rattle.wdf_base.specs.declared.event.Step.{Step}
use Rattle.wdf_base.specs.declared.event.Step.TheVariants as step
use Rattle.wdf_base.specs.declared.wait.OpenThing.{OpenThing}
use Rattle.wdf_base.specs.declared.wait.OpenThing.TheVariants as thing
use Rattle.wdf_base.specs.declared.wait.Cause.{Cause}
use Rattle.wdf_base.specs.declared.wait.Cause.TheVariants as cause
use Rattle.wdf_base.specs.declared.wait.WaitLine.{WaitLine}
use Rattle.wdf_base.specs.Kinds.{class_name}
use Rattle.wdf_base.specs.Resolved.{IsResolved, register_name, is_name}
use Rattle.wdf_lines.specs.Lines.{spaced, name_text, named, object_text, register_text, is_poster, id_text, poster_text, agent_text, cpu_text, value_text, argument_text, argument_words, answered_words, access_words, optional_words, answer_text, action_words, post_words, event_words, line_text}
use Rattle.wdf_lines.specs.Endings.{joined, ending_word, ending_text, step_word, thing_words, cause_words, wait_text}
use Rattle.wdf_trace.proofs.Blanks.{Lacks, AllLack, Lacks_append}
use Rattle.wdf_trace.proofs.CallLaws.{AllLack_append}
use Rattle.wdf_trace.proofs.NameLaws.{is_name_lacks}
use Rattle.law_lines.proofs.TableWords.{status_word_unfed, callback_word_unfed, call_word_unfed, fault_word_unfed, stage_word_unfed, ask_word_unfed}

-- ---- numbers

glyph_by : (b : Bool) (d : ℕ) → not ((if b then 48 + d else 87 + d) == 10) ≡ true
glyph_by true d = not_from_false _ (ne_eqb (48 + d) 10 (λ e. omega arith))
glyph_by false d = not_from_false _ (ne_eqb (87 + d) 10 (λ e. omega arith))

digit_unfed : (n : ℕ) (acc : List ℕ) → Lacks 10 acc → Lacks 10 (digit_glyph false (n % 10) ∷ acc)
digit_unfed n acc h = record { each = and_from _ _ (glyph_by (nat_lt (n % 10) 10) (n % 10)) h.each }

digits_by : (b : Bool) (u v : List ℕ) → Lacks 10 u → Lacks 10 v → Lacks 10 (if b then u else v)
digits_by true u v h k = h
digits_by false u v h k = k

digits_unfed : (k n : ℕ) (acc : List ℕ) → Lacks 10 acc → Lacks 10 (digits_onto k 10 false n acc)
digits_unfed zero n acc h = h
digits_unfed (suc k) n acc h =
    digits_by (n / 10 == 0) (digit_glyph false (n % 10) ∷ acc) (digits_onto k 10 false (n / 10) (digit_glyph false (n % 10) ∷ acc)) (digit_unfed n acc h)
    (digits_unfed k (n / 10) (digit_glyph false (n % 10) ∷ acc) (digit_unfed n acc h))

pub decimal_unfed : (n : ℕ) → Lacks 10 (decimal n)
unfolding digits
decimal_unfed n = digits_unfed 64 n [] (record { each = refl })

-- ---- names

names_unfed : (names : List (List ℕ)) (n : ℕ) → list_all is_name names ≡ true → Lacks 10 (get_or names n [])
names_unfed [] n h = record { each = refl }
names_unfed (w ∷ ws) zero h = is_name_lacks 10 w refl refl (and_parts (is_name w) (list_all is_name ws) h).0
names_unfed (w ∷ ws) (suc n) h = names_unfed ws n (and_parts (is_name w) (list_all is_name ws) h).1

name_unfed : (plan : Plan) → IsResolved plan → (n : ℕ) → Lacks 10 (name_text plan n)
name_unfed plan h n = names_unfed plan.names n h.names_plain

named_unfed : (plan : Plan) → IsResolved plan → (n : Option ℕ) → Lacks 10 (named plan n)
named_unfed plan h None = record { each = refl }
named_unfed plan h (Some n) = name_unfed plan h n

object_unfed : (plan : Plan) → IsResolved plan → (o : Handle) → Lacks 10 (object_text plan o)
object_unfed plan h o =
    Lacks_append 10 (name_text plan o.name) (46 ∷ decimal o.id.0) (name_unfed plan h o.name) (record { each = (decimal_unfed o.id.0).each })

id_unfed : (k : Option ℕ) → Lacks 10 (id_text k)
id_unfed None = record { each = refl }
id_unfed (Some k) = record { each = (decimal_unfed (k + 1)).each }

poster_unfed : (plan : Plan) → IsResolved plan → (n : Option ℕ) → Lacks 10 (poster_text plan n)
poster_unfed plan h None = record { each = refl }
poster_unfed plan h (Some n) = Lacks_append 10 (name_text plan n) (id_text (position (is_poster n) plan.declared)) (name_unfed plan h n) (id_unfed (position (is_poster n) plan.declared))

agent_by : (b : Bool) (w : List ℕ) → Lacks 10 w → Lacks 10 (if b then codes "pnp" else w)
agent_by true w h = record { each = refl }
agent_by false w h = h

agent_unfed : (plan : Plan) → IsResolved plan → (agent : ℕ) → Lacks 10 (agent_text plan agent)
agent_unfed plan h agent = agent_by (agent == 0) _ (poster_unfed plan h _)

-- ---- parts of events

cpu_unfed : (cpu : Cpu) → Lacks 10 (cpu_text cpu)
cpu_unfed cpu = record { each = (decimal_unfed cpu.0).each }

value_unfed : (plan : Plan) → IsResolved plan → (v : Value) → Lacks 10 (value_text plan v)
value_unfed plan h (Num n) = decimal_unfed n
value_unfed plan h (Obj o) = object_unfed plan h o
value_unfed plan h (Stat s) = status_word_unfed s

argument_unfed : (plan : Plan) → IsResolved plan → (a : Arg) → Lacks 10 (argument_text plan a)
argument_unfed plan h (Val v) = value_unfed plan h v
argument_unfed plan h (Class c) = named_unfed plan h (option_map class_name (slice_get plan.classes c))

register_unfed : (plan : Plan) → IsResolved plan → (r : ℕ) → Lacks 10 (register_text plan r)
register_unfed plan h r = named_unfed plan h (option_map register_name (slice_get plan.registers r))

take_unfed : (n : ℕ) (ws : List (List ℕ)) → AllLack 10 ws → AllLack 10 (take n ws)
take_unfed zero ws h = tt
take_unfed (suc n) [] h = tt
take_unfed (suc n) (w ∷ ws) h = (h.0, take_unfed n ws h.1)

arguments_unfed : (plan : Plan) → IsResolved plan → (c : Call) → AllLack 10 (argument_words plan c)
arguments_unfed plan h c =
    take_unfed c.count (argument_text plan c.a ∷ argument_text plan c.b ∷ argument_text plan c.c ∷ []) (argument_unfed plan h c.a, (argument_unfed plan h c.b, (argument_unfed plan h c.c, tt)))

answered_unfed : (plan : Plan) → IsResolved plan → (c : Call) (v : Value) → AllLack 10 (answered_words plan c v)
answered_unfed plan h c v =
    (call_word_unfed c.kind, AllLack_append 10 (argument_words plan c) (codes "->" ∷ value_text plan v ∷ []) (arguments_unfed plan h c) (record { each = refl }, (value_unfed plan h v, tt)))

access_unfed : (plan : Plan) → IsResolved plan → (a : Access) (r n : ℕ) → AllLack 10 (access_words plan a r n)
access_unfed plan h access.Read r n = (record { each = refl }, (register_unfed plan h r, (record { each = refl }, (decimal_unfed n, tt))))
access_unfed plan h access.Write r n = (record { each = refl }, (register_unfed plan h r, (decimal_unfed n, tt)))

optional_unfed : (plan : Plan) → IsResolved plan → (o : Option Handle) → AllLack 10 (optional_words plan o)
optional_unfed plan h None = tt
optional_unfed plan h (Some o) = (object_unfed plan h o, tt)

answer_unfed : (plan : Plan) → IsResolved plan → (a : Option Handle) → Lacks 10 (answer_text plan a)
answer_unfed plan h None = record { each = refl }
answer_unfed plan h (Some o) = object_unfed plan h o

action_unfed : (plan : Plan) → IsResolved plan → (a : Action) → AllLack 10 (action_words plan a)
action_unfed plan h (action.Set r n) = (record { each = refl }, (register_unfed plan h r, (decimal_unfed n, tt)))
action_unfed plan h (action.Raise i) = (record { each = refl }, (object_unfed plan h i, tt))
action_unfed plan h (action.Lower i) = (record { each = refl }, (object_unfed plan h i, tt))

post_unfed : (plan : Plan) → IsResolved plan → (p : Post) (a : Option Handle) → AllLack 10 (post_words plan p a)
post_unfed plan h (post.Read d n) a = (record { each = refl }, (object_unfed plan h d, (decimal_unfed n, (record { each = refl }, (answer_unfed plan h a, tt)))))
post_unfed plan h (post.Write d n) a = (record { each = refl }, (object_unfed plan h d, (decimal_unfed n, (record { each = refl }, (answer_unfed plan h a, tt)))))
post_unfed plan h (post.Control d c n) a = (record { each = refl }, (object_unfed plan h d, (decimal_unfed c, (decimal_unfed n, (record { each = refl }, (answer_unfed plan h a, tt))))))
post_unfed plan h (post.Cancel k) a = (record { each = refl }, (decimal_unfed k, (record { each = refl }, (answer_unfed plan h a, tt))))
post_unfed plan h (post.Ask ask d) a = (ask_word_unfed ask, (object_unfed plan h d, tt))
post_unfed plan h (post.Act act) a = action_unfed plan h act
post_unfed plan h (post.Done r s) a = (record { each = refl }, (object_unfed plan h r, (status_word_unfed s, tt)))

-- ---- events

event_unfed : (plan : Plan) → IsResolved plan → (e : Event) → AllLack 10 (event_words plan e)
event_unfed plan h (event.Start cpu c o r) = (cpu_unfed cpu, (record { each = refl }, (callback_word_unfed c, (object_unfed plan h o, optional_unfed plan h r))))
event_unfed plan h (event.Local cpu line) = (cpu_unfed cpu, (record { each = refl }, (decimal_unfed line, tt)))
event_unfed plan h (event.Log cpu x) = (cpu_unfed cpu, (record { each = refl }, (value_unfed plan h x, tt)))
event_unfed plan h (event.Spend cpu n) = (cpu_unfed cpu, (record { each = refl }, (decimal_unfed n, tt)))
event_unfed plan h (event.Register cpu a r n) = (cpu_unfed cpu, access_unfed plan h a r n)
event_unfed plan h (event.Did cpu c x) = (cpu_unfed cpu, (record { each = refl }, answered_unfed plan h c x))
event_unfed plan h (event.Waiting cpu c) = (cpu_unfed cpu, (record { each = refl }, (call_word_unfed c.kind, arguments_unfed plan h c)))
event_unfed plan h (event.Woke cpu c x) = (cpu_unfed cpu, (record { each = refl }, answered_unfed plan h c x))
event_unfed plan h (event.Park cpu f) = (cpu_unfed cpu, (record { each = refl }, (decimal_unfed f.0, tt)))
event_unfed plan h (event.Unpark cpu f) = (cpu_unfed cpu, (record { each = refl }, (decimal_unfed f.0, tt)))
event_unfed plan h (event.End cpu c o x) = (cpu_unfed cpu, (record { each = refl }, (callback_word_unfed c, (object_unfed plan h o, (value_unfed plan h x, tt)))))
event_unfed plan h (event.Fault cpu f line) = (cpu_unfed cpu, (record { each = refl }, (fault_word_unfed f, (decimal_unfed line, tt))))
event_unfed plan h (event.Stage d s i) = (record { each = refl }, (record { each = refl }, (object_unfed plan h d, (stage_word_unfed s, optional_unfed plan h i))))
event_unfed plan h (event.Complete r s) = (record { each = refl }, (record { each = refl }, (object_unfed plan h r, (status_word_unfed s, tt))))
event_unfed plan h (event.Cleanup o) = (record { each = refl }, (record { each = refl }, (object_unfed plan h o, tt)))
event_unfed plan h (event.Destroy o) = (record { each = refl }, (record { each = refl }, (object_unfed plan h o, tt)))
event_unfed plan h (event.Posted agent p a) = (agent_unfed plan h agent, post_unfed plan h p a)
event_unfed plan h (event.Tick n) = (record { each = refl }, (record { each = refl }, (decimal_unfed n, tt)))

spaced_unfed : (ws : List (List ℕ)) → AllLack 10 ws → Lacks 10 (spaced ws)
spaced_unfed [] h = record { each = refl }
spaced_unfed (w ∷ ws) h = record { each = (Lacks_append 10 w (spaced ws) h.0 (spaced_unfed ws h.1)).each }

pub line_unfed : (plan : Plan) → IsResolved plan → (number : ℕ) (e : Event) → Lacks 10 (line_text plan number e)
line_unfed plan h number e = Lacks_append 10 (decimal number) (spaced (event_words plan e)) (decimal_unfed number) (spaced_unfed (event_words plan e) (event_unfed plan h e))

-- ---- the ending and the wait list

joined_unfed : (ws : List (List ℕ)) → AllLack 10 ws → Lacks 10 (joined ws)
joined_unfed [] h = record { each = refl }
joined_unfed (w ∷ ws) h = Lacks_append 10 w (spaced ws) h.0 (spaced_unfed ws h.1)

ending_word_unfed : (e : Ending) → Lacks 10 (ending_word e)
ending_word_unfed ending.Running = record { each = refl }
ending_word_unfed _ = record { each = refl }

pub ending_unfed : (events : ℕ) (e : Ending) → Lacks 10 (ending_text events e)
ending_unfed events e = joined_unfed (ending_word e ∷ decimal events ∷ []) (ending_word_unfed e, (decimal_unfed events, tt))

step_unfed : (s : Step) → Lacks 10 (step_word s)
step_unfed (step.Run c i) = callback_word_unfed c
step_unfed (step.Pass s i) = stage_word_unfed s

thing_unfed : (plan : Plan) → IsResolved plan → (t : OpenThing) → AllLack 10 (thing_words plan t)
thing_unfed plan h (thing.Waiting f c o) = (record { each = refl }, (decimal_unfed f.0, (callback_word_unfed c, (object_unfed plan h o, (record { each = refl }, tt)))))
thing_unfed plan h (thing.Owned r) = (object_unfed plan h r, (record { each = refl }, tt))
thing_unfed plan h (thing.Sent r t) = (object_unfed plan h r, (record { each = refl }, (object_unfed plan h t, tt)))
thing_unfed plan h (thing.Queued r q) = (object_unfed plan h r, (record { each = refl }, (object_unfed plan h q, tt)))
thing_unfed plan h (thing.Returning r q) = (object_unfed plan h r, (record { each = refl }, (object_unfed plan h q, tt)))
thing_unfed plan h (thing.Sequence d s) = (object_unfed plan h d, (step_unfed s, (record { each = refl }, tt)))
thing_unfed plan h (thing.Leaving o) = (object_unfed plan h o, tt)
thing_unfed plan h (thing.Deferred o) = (object_unfed plan h o, (record { each = refl }, tt))
thing_unfed plan h (thing.Asking d) = (record { each = refl }, (record { each = refl }, (object_unfed plan h d, tt)))

cause_unfed : (plan : Plan) → IsResolved plan → (c : Option Cause) → AllLack 10 (cause_words plan c)
cause_unfed plan h None = tt
cause_unfed plan h (Some (cause.ByFrame f)) = (record { each = refl }, (decimal_unfed f.0, tt))
cause_unfed plan h (Some (cause.ByLock l f)) = (record { each = refl }, (object_unfed plan h l, (record { each = refl }, (record { each = refl }, (decimal_unfed f.0, tt)))))
cause_unfed plan h (Some (cause.ByRequest r)) = (record { each = refl }, (object_unfed plan h r, tt))
cause_unfed plan h (Some (cause.ByWork w)) = (record { each = refl }, (object_unfed plan h w, tt))
cause_unfed plan h (Some (cause.Behind r)) = (record { each = refl }, (object_unfed plan h r, tt))
cause_unfed plan h (Some (cause.References n)) = (record { each = refl }, (decimal_unfed n, tt))
cause_unfed plan h (Some (cause.ByChild c)) = (record { each = refl }, (object_unfed plan h c, tt))
cause_unfed plan h (Some (cause.AtTarget t)) = (record { each = refl }, (object_unfed plan h t, tt))
cause_unfed plan h _ = (record { each = refl }, tt)

pub wait_unfed : (plan : Plan) → IsResolved plan → (w : WaitLine) → Lacks 10 (wait_text plan w)
wait_unfed plan h w = joined_unfed (thing_words plan w.thing ++ cause_words plan w.cause) (AllLack_append 10 (thing_words plan w.thing) (cause_words plan w.cause) (thing_unfed plan h w.thing) (cause_unfed plan h w.cause))
