-- The lines of a run, as it goes on.
use Rattle.std.proofs.Common.{◌≡◌, ◌⊎◌, ℕ, zero, suc, ◌+◌, ◌-◌, ◌<◌, ◌≤◌, List, [], ◌∷◌, ◌++◌, length, map, take, Some, refl, ap, ◌∙◌, sym, arith, append_assoc, append-nil, slice_get, codes}
use Rattle.std.proofs.lemmas.List.{append_cancel_right, length-map, take_all}
use Rattle.std.proofs.lemmas.Option.{slice_get_within}
use Rattle.wdf_base.specs.Meaning.{Meaning}
use Rattle.wdf_base.specs.declared.plan.Plan.{Plan}
use Rattle.wdf_base.specs.declared.event.Event.{Event}
use Rattle.wdf_base.specs.declared.event.Ending.{Ending}
use Rattle.wdf_base.specs.declared.event.Ending.TheVariants as ending
use Rattle.wdf_base.specs.declared.wait.WaitLine.{WaitLine}
use Rattle.wdf_model.specs.rules.Ready.{IsRunOf, ending_of, ending_by, ready, last_fault, state_after}
use Rattle.wdf_model.specs.rules.Waits.{wait_list}
use Rattle.wdf_lines.specs.Lines.{line_text, lines_from}
use Rattle.wdf_lines.specs.Endings.{ending_text, wait_text, wait_lines}
use Rattle.wdf_run_text.specs.Lines.{fed, trace_lines, joined_lines}
use Rattle.wdf_run_text.specs.Texts.{text_of, event_lines, fed_wait, last_lines, end_lines, lines_so_far, IsAmong, HasEventsOf}
use Rattle.wdf_replay.specs.Verdicts.{IsLeft, IsBadLine}
use Rattle.wdf_replay.specs.declared.verdict.Verdict.TheVariants.{Accepted, RefusedAt}
use Rattle.wdf_replay.specs.declared.verdict.Why.{Why}
use Rattle.wdf_replay.specs.declared.verdict.Why.TheVariants as why
use Rattle.wdf_run_text.proofs.Cutting.{lines_join}

pub fed_once : (a b : List ℕ) → fed a ≡ fed b → a ≡ b
fed_once a b h = append_cancel_right a b (codes "\n") h

-- ---- events

pub event_lines_push : (plan : Plan) (n : ℕ) (run : List Event) (e : Event)
    → event_lines plan n (run ++ e ∷ []) ≡ event_lines plan n run ++ fed (line_text plan (length run + n) e) ∷ []
event_lines_push plan n [] e = let z : n ≡ 0 + n = omega arith in ap (λ i. fed (line_text plan i e) ∷ []) z
event_lines_push plan n (x ∷ xs) e =
    let k : length xs + (n + 1) ≡ suc (length xs) + n = omega arith in
    ap (λ l. fed (line_text plan n x) ∷ l) (event_lines_push plan (n + 1) xs e ∙ ap (λ i. event_lines plan (n + 1) xs ++ fed (line_text plan i e) ∷ []) k)

pub length-event_lines : (plan : Plan) (n : ℕ) (run : List Event) → length (event_lines plan n run) ≡ length run
length-event_lines plan n [] = refl
length-event_lines plan n (x ∷ xs) = ap suc (length-event_lines plan (n + 1) xs)

-- ---- where an event may follow

first_of : (events : List Event) (event : Event) (place : ℕ) → slice_get events place ≡ Some event → (e : Event) × (es : List Event) × (events ≡ e ∷ es)
first_of [] event zero h = absurd (let z : ⊥ = cc in z)
first_of [] event (suc k) h = absurd (let z : ⊥ = cc in z)
first_of (e ∷ es) event k h = (e, es, refl)

pub runs_on : {A : Type 0} (plan : Plan) (m : Meaning A) (run : List Event) (event : Event) → IsAmong event (ready plan m run) → ending_of plan m run ≡ ending.Running
unfolding ending_of
runs_on plan m run event among =
    let p = first_of (ready plan m run) event among.0 among.1 in
    ap (ending_by plan m (state_after plan m run) (last_fault run)) p.2

pub no_end_lines : {A : Type 0} (plan : Plan) (m : Meaning A) (run : List Event) → ending_of plan m run ≡ ending.Running → end_lines plan m run ≡ []
no_end_lines plan m run h = ap (last_lines plan (length run) (wait_list plan m run)) h

-- none of the lines after the events has come
pub none_yet : {A : Type 0} (plan : Plan) (m : Meaning A) (run : List Event) (told : ℕ) (event : Event) → told ≤ length (end_lines plan m run) → IsAmong event (ready plan m run) → told ≡ 0
none_yet plan m run told event within among = omega (arith, within, ap length (no_end_lines plan m run (runs_on plan m run event among)))

-- the lines so far with one event more
pub event_taken : {A : Type 0} (plan : Plan) (m : Meaning A) (run : List Event) (told number : ℕ) (event : Event) (line text : List ℕ)
    → told ≤ length (end_lines plan m run) → IsAmong event (ready plan m run) → number ≡ length run + 1 → line_text plan number event ≡ text → line ≡ fed text
    → (lines_so_far plan m (run ++ event ∷ []) told ≡ lines_so_far plan m run told ++ line ∷ []) × (told ≤ length (end_lines plan m (run ++ event ∷ [])))
event_taken plan m run told number event line text within among is_number is_text is_line =
    let e : told ≡ 0 = none_yet plan m run told event within among in
    (rw (e, event_lines_push plan 1 run event, is_line, ← is_text, is_number) (append-nil _ ∙ sym (ap (λ l. l ++ fed (line_text plan (length run + 1) event) ∷ []) (append-nil (event_lines plan 1 run)))), omega (arith, e))

-- ---- the lines after the events

pub take_one_more : {T : Type 0} (xs : List T) (k : ℕ) (x : T) → slice_get xs k ≡ Some x → (take (k + 1) xs ≡ take k xs ++ x ∷ []) × (k + 1 ≤ length xs)
take_one_more [] zero x h = absurd (let z : ⊥ = cc in z)
take_one_more [] (suc k) x h = absurd (let z : ⊥ = cc in z)
take_one_more (y ∷ ys) zero x h = (let e : y ≡ x = cc in ap (λ v. v ∷ []) e, omega arith)
take_one_more (y ∷ ys) (suc k) x h =
    let p = take_one_more ys k x h in
    let b : k + 1 ≤ length ys = p.1 in
    let e : suc k + 1 ≡ suc (k + 1) = omega arith in
    (ap (λ n. take n (y ∷ ys)) e ∙ ap (λ l. y ∷ l) p.0, omega (arith, b))

pub end_taken : {A : Type 0} (plan : Plan) (m : Meaning A) (run : List Event) (told : ℕ) (line : List ℕ)
    → slice_get (end_lines plan m run) told ≡ Some line
    → (lines_so_far plan m run (told + 1) ≡ lines_so_far plan m run told ++ line ∷ []) × (told + 1 ≤ length (end_lines plan m run))
end_taken plan m run told line here =
    let p = take_one_more (end_lines plan m run) told line here in
    (ap (λ l. event_lines plan 1 run ++ l) p.0 ∙ sym (append_assoc (event_lines plan 1 run) (take told (end_lines plan m run)) (line ∷ [])), p.1)

pub last_lines_over : (plan : Plan) (events : ℕ) (waits : List WaitLine) (e : Ending) → (e ≡ ending.Running → ⊥)
    → last_lines plan events waits e ≡ fed (ending_text events e) ∷ map (fed_wait plan) waits
last_lines_over plan events waits ending.Running over = absurd (over refl)
last_lines_over plan events waits _ over = refl

pub end_lines_over : {A : Type 0} (plan : Plan) (m : Meaning A) (run : List Event) → (ending_of plan m run ≡ ending.Running → ⊥)
    → end_lines plan m run ≡ fed (ending_text (length run) (ending_of plan m run)) ∷ map (fed_wait plan) (wait_list plan m run)
end_lines_over plan m run over = last_lines_over plan (length run) (wait_list plan m run) (ending_of plan m run) over

wait_fed : (plan : Plan) (waits : List WaitLine) (k : ℕ) (line : List ℕ) → slice_get (map (fed_wait plan) waits) k ≡ Some line → (text : List ℕ) × (line ≡ fed text)
wait_fed plan [] zero line h = absurd (let z : ⊥ = cc in z)
wait_fed plan [] (suc k) line h = absurd (let z : ⊥ = cc in z)
wait_fed plan (w ∷ ws) zero line h = (wait_text plan w, let e : fed (wait_text plan w) ≡ line = cc in sym e)
wait_fed plan (w ∷ ws) (suc k) line h = wait_fed plan ws k line h

last_fed : (plan : Plan) (events : ℕ) (waits : List WaitLine) (text : List ℕ) (told : ℕ) (line : List ℕ) → slice_get (fed text ∷ map (fed_wait plan) waits) told ≡ Some line → (t : List ℕ) × (line ≡ fed t)
last_fed plan events waits text zero line h = (text, let e : fed text ≡ line = cc in sym e)
last_fed plan events waits text (suc k) line h = wait_fed plan waits k line h

fed_by : (plan : Plan) (events : ℕ) (waits : List WaitLine) (e : Ending) (told : ℕ) (line : List ℕ) → slice_get (last_lines plan events waits e) told ≡ Some line → (text : List ℕ) × (line ≡ fed text)
fed_by plan events waits ending.Running zero line h = absurd (let z : ⊥ = cc in z)
fed_by plan events waits ending.Running (suc k) line h = absurd (let z : ⊥ = cc in z)
fed_by plan events waits ending.Finished told line h = last_fed plan events waits (ending_text events ending.Finished) told line h
fed_by plan events waits ending.Limit told line h = last_fed plan events waits (ending_text events ending.Limit) told line h
fed_by plan events waits (ending.Fault f) told line h = last_fed plan events waits (ending_text events (ending.Fault f)) told line h
fed_by plan events waits ending.Stuck told line h = last_fed plan events waits (ending_text events ending.Stuck) told line h

-- a line after the events ends with a line feed
pub end_line_fed : {A : Type 0} (plan : Plan) (m : Meaning A) (run : List Event) (told : ℕ) (line : List ℕ) → slice_get (end_lines plan m run) told ≡ Some line → (text : List ℕ) × (line ≡ fed text)
end_line_fed plan m run told line h = fed_by plan (length run) (wait_list plan m run) (ending_of plan m run) told line h

-- ---- the text of a run is its lines

pub joined_append : (ks ls : List (List ℕ)) → joined_lines (ks ++ ls) ≡ joined_lines ks ++ joined_lines ls
joined_append [] ls = refl
joined_append (k ∷ ks) ls = ap (λ t. k ++ t) (joined_append ks ls) ∙ sym (append_assoc k (joined_lines ks) (joined_lines ls))

events_joined : (plan : Plan) (n : ℕ) (run : List Event) → joined_lines (event_lines plan n run) ≡ lines_from plan n run
events_joined plan n [] = refl
events_joined plan n (e ∷ es) = ap (λ t. fed (line_text plan n e) ++ t) (events_joined plan (n + 1) es)

waits_joined : (plan : Plan) (waits : List WaitLine) → joined_lines (map (fed_wait plan) waits) ≡ wait_lines plan waits
waits_joined plan [] = refl
waits_joined plan (w ∷ ws) = ap (λ t. fed (wait_text plan w) ++ t) (waits_joined plan ws)

pub whole_joined : {A : Type 0} (plan : Plan) (m : Meaning A) (run : List Event) → (ending_of plan m run ≡ ending.Running → ⊥)
    → joined_lines (event_lines plan 1 run ++ end_lines plan m run) ≡ text_of plan m run
whole_joined plan m run over =
    ap (λ ls. joined_lines (event_lines plan 1 run ++ ls)) (end_lines_over plan m run over)
    ∙ joined_append (event_lines plan 1 run) (fed (ending_text (length run) (ending_of plan m run)) ∷ map (fed_wait plan) (wait_list plan m run))
    ∙ ap (λ t. t ++ (fed (ending_text (length run) (ending_of plan m run)) ++ joined_lines (map (fed_wait plan) (wait_list plan m run)))) (events_joined plan 1 run)
    ∙ ap (λ t. lines_from plan 1 run ++ (fed (ending_text (length run) (ending_of plan m run)) ++ t)) (waits_joined plan (wait_list plan m run))

-- ---- which line after the events comes next

pub none_past : {T : Type 0} (xs : List T) (k : ℕ) (x : T) → length xs ≤ k → slice_get xs k ≡ Some x → ⊥
none_past xs k x past h = let within : k < length xs = slice_get_within xs k x h in omega arith

pub no_end_running : {A : Type 0} (plan : Plan) (m : Meaning A) (run : List Event) (told : ℕ) (line : List ℕ)
    → ending_of plan m run ≡ ending.Running → slice_get (end_lines plan m run) told ≡ Some line → ⊥
no_end_running plan m run told line running h = none_past (end_lines plan m run) told line (omega (arith, ap length (no_end_lines plan m run running))) h

pub end_first : {A : Type 0} (plan : Plan) (m : Meaning A) (run : List Event) (told : ℕ) (text : List ℕ)
    → (ending_of plan m run ≡ ending.Running → ⊥) → told ≡ 0 → ending_text (length run) (ending_of plan m run) ≡ text → slice_get (end_lines plan m run) told ≡ Some (fed text)
end_first plan m run told text over zeroth is = rw (zeroth, end_lines_over plan m run over) (ap (λ t. Some (fed t)) is)

pub end_first_back : {A : Type 0} (plan : Plan) (m : Meaning A) (run : List Event) (told : ℕ) (text : List ℕ)
    → (ending_of plan m run ≡ ending.Running → ⊥) → told ≡ 0 → slice_get (end_lines plan m run) told ≡ Some (fed text) → ending_text (length run) (ending_of plan m run) ≡ text
end_first_back plan m run told text over zeroth here =
    let there : Some (fed (ending_text (length run) (ending_of plan m run))) ≡ Some (fed text) = rw (zeroth, end_lines_over plan m run over) at here in
    fed_once (ending_text (length run) (ending_of plan m run)) text (let e : fed (ending_text (length run) (ending_of plan m run)) ≡ fed text = cc in e)

pub length-end_lines : {A : Type 0} (plan : Plan) (m : Meaning A) (run : List Event) → (ending_of plan m run ≡ ending.Running → ⊥) → length (end_lines plan m run) ≡ length (wait_list plan m run) + 1
length-end_lines plan m run over = omega (arith, ap length (end_lines_over plan m run over), length-map (wait_list plan m run) (fed_wait plan))

-- ---- verdicts on a trace whose lines are all good

pub accepted : {A : Type 0} (plan : Plan) (m : Meaning A) (trace : List ℕ) (run : List Event) (told : ℕ) (e : Ending)
    → IsRunOf plan m run → HasEventsOf plan run → length run ≤ plan.limit → e ≡ ending_of plan m run → (e ≡ ending.Running → ⊥)
    → trace_lines trace ≡ lines_so_far plan m run told → length (wait_list plan m run) < told → IsLeft plan m trace (Accepted e) run
accepted plan m trace run told e is_run valid limited ends over good all =
    let over_run : ending_of plan m run ≡ ending.Running → ⊥ = λ h. over (ends ∙ h) in
    let whole : take told (end_lines plan m run) ≡ end_lines plan m run = take_all told (end_lines plan m run) (omega (arith, all, length-end_lines plan m run over_run)) in (
      record {
        run = run;
        is_run = is_run;
        ended = sym ends;
        over = over;
        valid = valid;
        limited = limited;
        lines = good ∙ ap (λ ls. event_lines plan 1 run ++ ls) whole;
        text = sym (lines_join trace) ∙ ap joined_lines good ∙ ap (λ ls. joined_lines (event_lines plan 1 run ++ ls)) whole ∙ whole_joined plan m run over_run;
      },
      refl,
    )

pub missing : {A : Type 0} (plan : Plan) (m : Meaning A) (trace : List ℕ) (run : List Event) (told line : ℕ)
    → IsRunOf plan m run → HasEventsOf plan run → length run ≤ plan.limit → told ≤ length (end_lines plan m run) → trace_lines trace ≡ lines_so_far plan m run told
    → line ≡ length (lines_so_far plan m run told) + 1
    → ((ending_of plan m run ≡ ending.Running) ⊎ (told < length (end_lines plan m run)))
    → IsLeft plan m trace (RefusedAt line why.Missing) run
missing plan m trace run told line is_run valid limited within good number more = (
  record {
    run = run;
    is_run = is_run;
    valid = valid;
    limited = limited;
    told = told;
    within = within;
    left = [];
    good = good ∙ sym (append-nil (lines_so_far plan m run told));
    number = number;
    bad = (refl, more);
  },
  refl,
)

pub refused : {A : Type 0} (plan : Plan) (m : Meaning A) (trace : List ℕ) (run : List Event) (told number : ℕ) (line : List ℕ) (lines : List (List ℕ)) (y : Why)
    → IsRunOf plan m run → HasEventsOf plan run → length run ≤ plan.limit → told ≤ length (end_lines plan m run) → trace_lines trace ≡ lines_so_far plan m run told ++ line ∷ lines
    → number ≡ length (lines_so_far plan m run told) + 1 → IsBadLine plan m run told y line → IsLeft plan m trace (RefusedAt number y) run
refused plan m trace run told number line lines y is_run valid limited within good is_number bad = (
  record {
    run = run;
    is_run = is_run;
    valid = valid;
    limited = limited;
    told = told;
    within = within;
    left = line ∷ lines;
    good = good;
    number = is_number;
    bad = bad;
  },
  refl,
)
