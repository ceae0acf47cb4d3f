-- The runs that were written, and how they ended.
use Rattle.std.proofs.Common.{ℕ, ◌≡◌, inl, inr, IsTrue, List, refl, subst, ◌∙◌, arith}
use Rattle.wdf_base.specs.Resolved.{IsResolved}
use Rattle.wdf_base.specs.declared.plan.Plan.{Plan}
use Rattle.wdf_base.specs.declared.event.Event.{Event}
use Rattle.wdf_base.specs.declared.event.Ending.{Ending}
use Rattle.wdf_base.specs.declared.event.Ending.TheVariants as ending
use Rattle.wdf_base.specs.declared.event.Fault.{Fault}
use Rattle.wdf_model.specs.rules.Ready.{ending_of, IsRunOf}
use Rattle.law_trace_all.proofs.Together.{all_kept}
use Rattle.law_idle.proofs.Program.{idle_runs_keep_law}
use Rattle.law_stack.proofs.Served.{stack_runs_keep_laws}
use Rattle.wdf_io.specs.Outside.{Gains}
use Rattle.wdf_plan.specs.Plans.{plan_of}
use Rattle.wdf_output.specs.Endings.{status_of}
use Rattle.wdf_output.specs.Said.{Sinking}
use Rattle.wdf_serve.specs.Runs.{KeepsAgentLaws, WroteRunTo, WroteSomeRun, is_end_status}
use Rattle.wdf_top.specs.Agents.{RunAgents, Usual, Idle, Stacked, meaning_of}
use Rattle.wdf_top.specs.Answers.{Answers, HasPlan, Picking, Run, running}
use Rattle.wdf_top.specs.Top.{Sourcing, IsRead, Reads, Service, Tells, TellsBy}
use Rattle.wdf_top.proofs.Ended.{made_ends, made_runs}
use Rattle.wdf_top.proofs.Resolving.{text_plan_resolved}
use Rattle.wdf_top.proofs.Statuses.{differs}

-- runs keep the laws of their agents
own_kept : (a : RunAgents) (plan : Plan) (run : List Event) → IsResolved plan → IsRunOf plan (meaning_of a) run → KeepsAgentLaws a plan run
own_kept Usual plan run resolved runs = tt
own_kept Idle plan run resolved runs = λ k e at. idle_runs_keep_law plan run k e resolved runs at
own_kept Stacked plan run resolved runs = λ k e at. stack_runs_keep_laws plan run k e resolved runs at

-- an answer to the whole input with the status of an end is a run that was written
of_answer : (a : RunAgents) (by : Picking) (s : Sourcing) (k : Sinking) (answer : ℕ) (input text : List ℕ) (status : ℕ) → IsRead s input → Answers (running (meaning_of a) by) input text status
    → answer ≡ status → Gains k.before k.after text → k.faults_after ≡ k.faults_before → IsTrue (is_end_status answer) → WroteSomeRun a by s k answer
of_answer a by s k answer input text status is_read (inl (inl r)) same gained unfailed ends = absurd (differs is_end_status 10 answer refl ends (same ∙ r.4))
of_answer a by s k answer input text status is_read (inl (inr r)) same gained unfailed ends = absurd (differs is_end_status 11 answer refl ends (same ∙ r.3))
of_answer a by s k answer input text status is_read (inr (scene, stands, accepted, trace)) same gained unfailed ends =
    let has : HasPlan input (plan_of scene) = (scene, stands, accepted, refl) in
    let resolved : IsResolved (plan_of scene) = text_plan_resolved input (plan_of scene) has in
    let runs : IsRunOf (plan_of scene) (meaning_of a) trace.run = made_runs (plan_of scene) (meaning_of a) by trace.run trace.made in
    record {
      input = input;
      whole = is_read;
      plan = plan_of scene;
      stands = has;
      run = trace.run;
      runs = runs;
      made = trace.made;
      ended = made_ends (plan_of scene) (meaning_of a) by trace.run trace.made;
      status_is = same ∙ trace.status_is;
      keeps = all_kept (plan_of scene) (meaning_of a) trace.run resolved runs;
      keeps_own = own_kept a (plan_of scene) trace.run resolved runs;
      written = rw trace.text_is at gained;
      unfailed = unfailed;
    }

wrote : (a : RunAgents) (by : Picking) (s : Sourcing) (k : Sinking) (answer : ℕ) → TellsBy (running (meaning_of a) by) s k answer → IsTrue (is_end_status answer) → WroteSomeRun a by s k answer
wrote a by s k answer (text, status, inl p, inl said) ends = of_answer a by s k answer p.0 text status p.1 p.2 said.0 said.1 said.2 ends
wrote a by s k answer (text, status, inr (inl p), inl said) ends = absurd (differs is_end_status 14 answer refl ends (said.0 ∙ p.3))
wrote a by s k answer (text, status, inr (inr (inl p)), inl said) ends = absurd (differs is_end_status 12 answer refl ends (said.0 ∙ p.3))
wrote a by s k answer (text, status, inr (inr (inr p)), inl said) ends = absurd (differs is_end_status 15 answer refl ends (said.0 ∙ p.3))
wrote a by s k answer (text, status, due, inr said) ends = absurd (differs is_end_status 13 answer refl ends said.0)

pub headline : (v : Service) (a : RunAgents) (by : Picking) (s : Sourcing) (k : Sinking) (answer : ℕ) → Tells v s k answer → v ≡ Reads (Run a by) → IsTrue (is_end_status answer) → WroteSomeRun a by s k answer
headline v a by s k answer told is ends = wrote a by s k answer (rw is at told) ends

-- ---- how they ended

-- the same, of a known status
headline_of : (n : ℕ) → IsTrue (is_end_status n) → (v : Service) (a : RunAgents) (by : Picking) (s : Sourcing) (k : Sinking) (answer : ℕ) → Tells v s k answer → v ≡ Reads (Run a by) → answer ≡ n → WroteSomeRun a by s k n
headline_of n ends v a by s k answer told is same = subst (λ m. WroteSomeRun a by s k m) same (headline v a by s k answer told is (rw same ends))

zero_finished : (e : Ending) → 0 ≡ status_of e → (e ≡ ending.Running → ⊥) → e ≡ ending.Finished
zero_finished ending.Running is over = absurd (over refl)
zero_finished ending.Finished is over = refl
zero_finished _ is over = absurd (omega (arith, is))

three_fault : (e : Ending) → 3 ≡ status_of e → (f : Fault) × (e ≡ ending.Fault f)
three_fault (ending.Fault f) is = (f, refl)
three_fault _ is = absurd (omega (arith, is))

four_stuck : (e : Ending) → 4 ≡ status_of e → e ≡ ending.Stuck
four_stuck ending.Stuck is = refl
four_stuck _ is = absurd (omega (arith, is))

five_limit : (e : Ending) → 5 ≡ status_of e → e ≡ ending.Limit
five_limit ending.Limit is = refl
five_limit _ is = absurd (omega (arith, is))

module _ (v : Service) (s : Sourcing) (k : Sinking) (answer : ℕ) (told : Tells v s k answer) (a : RunAgents) (by : Picking) (is : v ≡ Reads (Run a by)) where
  pub finished : answer ≡ 0 → WroteRunTo a by s k 0 ending.Finished
  finished same =
      let w : WroteSomeRun a by s k 0 = headline_of 0 refl v a by s k answer told is same in
      (w, zero_finished (ending_of w.plan (meaning_of a) w.run) w.status_is w.ended)

  pub fault : answer ≡ 3 → (f : Fault) × WroteRunTo a by s k 3 (ending.Fault f)
  fault same =
      let w : WroteSomeRun a by s k 3 = headline_of 3 refl v a by s k answer told is same in
      let at : (f : Fault) × (ending_of w.plan (meaning_of a) w.run ≡ ending.Fault f) = three_fault (ending_of w.plan (meaning_of a) w.run) w.status_is in
      (at.0, (w, at.1))

  pub stuck : answer ≡ 4 → WroteRunTo a by s k 4 ending.Stuck
  stuck same =
      let w : WroteSomeRun a by s k 4 = headline_of 4 refl v a by s k answer told is same in
      (w, four_stuck (ending_of w.plan (meaning_of a) w.run) w.status_is)

  pub limit : answer ≡ 5 → WroteRunTo a by s k 5 ending.Limit
  limit same =
      let w : WroteSomeRun a by s k 5 = headline_of 5 refl v a by s k answer told is same in
      (w, five_limit (ending_of w.plan (meaning_of a) w.run) w.status_is)
