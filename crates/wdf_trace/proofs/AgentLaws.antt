-- An agent is read back from its word.
use Rattle.std.proofs.Common.{◌≡◌, ℕ, zero, suc, ◌<◌, ◌≤◌, ◌+◌, ◌-◌, ◌^◌, false, List, ◌++◌, length, Option, Some, None, get_or, unwrap_or, position, option_map, slice_get, refl, sym, ap, ◌∙◌, arith, codes, decimal, append-nil}
use Rattle.std.specs.Str.{bytes_eq}
use Rattle.std.proofs.lemmas.Bool.{both_ways, false_from_ne_true, cond-false, ne_eqb}
use Rattle.std.proofs.lemmas.Slice.Eq.{bytes_eq-Decides}
use Rattle.wdf_base.specs.declared.plan.Plan.{Plan}
use Rattle.wdf_base.specs.declared.script.AgentInfo.{AgentInfo}
use Rattle.wdf_base.specs.Resolved.{agent_name, is_reserved}
use Rattle.wdf_lines.specs.Lines.{name_text, is_poster, id_text, poster_text, agent_text}
use Rattle.wdf_trace.specs.Reading.{part, word, is_agent_with, poster_of, agent_of}
use Rattle.wdf_trace.proofs.Blanks.{Lacks, Lacks_append, parts_last, parts_more}
use Rattle.wdf_trace.proofs.Decimals.{Lacks_decimal}
use Rattle.wdf_trace.proofs.NameLaws.{HasNames, item_at, place_by_name}
use Rattle.wdf_trace.proofs.ValueLaws.{name_lacks_dot, name_lacks_blank, position_within}

-- the name is the first part
name_part : (name : List ℕ) (place : Option ℕ) → Lacks 46 name → part 46 0 (name ++ id_text place) ≡ name
name_part name None h = ap (λ w. part 46 0 w) (append-nil name) ∙ ap (word 0) (parts_last 46 name h)
name_part name (Some k) h = ap (word 0) (parts_more 46 name (decimal (k + 1)) h)

-- the word of an agent from 1 on
agent_text-suc : (plan : Plan) (k : ℕ) (x : AgentInfo) → slice_get plan.agents k ≡ Some x → agent_text plan (suc k) ≡ poster_text plan (Some (agent_name x))
agent_text-suc plan k x got =
    let e : suc k - 1 ≡ k = omega arith in
    cond-false _ _ _ (ne_eqb (suc k) 0 (λ z. omega arith))
    ∙ ap (λ n. poster_text plan (option_map agent_name (slice_get plan.agents n))) e ∙ ap (λ o. poster_text plan (option_map agent_name o)) got

-- the word of an agent from 1 on isn't that of the Plug and Play manager
not_pnp : (name : List ℕ) (place : Option ℕ) → Lacks 46 name → is_reserved name ≡ false → bytes_eq (name ++ id_text place) (codes "pnp") ≡ false
not_pnp name place h free =
    false_from_ne_true _ (λ e.
    let is : name ++ id_text place ≡ codes "pnp" = (bytes_eq-Decides (name ++ id_text place) (codes "pnp")).0 e in
    let same : name ≡ codes "pnp" = sym (name_part name place h) ∙ ap (part 46 0) is in
    both_ways (is_reserved name) free (ap is_reserved same))

-- an agent from 1 on is found by its name
found_by_name : (plan : Plan) → HasNames plan → (k : ℕ) (x : AgentInfo) → k < length plan.agents → get_or plan.agents k x ≡ x → (place : Option ℕ) → agent_of plan (name_text plan (agent_name x) ++ id_text place) ≡ suc k
found_by_name plan h k x within same place =
    let n = agent_name x in
    let at : agent_name (get_or plan.agents k x) ≡ n = ap agent_name same in
    let there : n < length plan.names = rw (← at) (h.agents.there k x within) in
    let free : is_reserved (name_text plan n) ≡ false = rw (← at) (h.agent_free k x within) in
    let dots = name_lacks_dot plan h n there in
    let first : part 46 0 (name_text plan n ++ id_text place) ≡ name_text plan (agent_name (get_or plan.agents k x)) = name_part (name_text plan n) place dots ∙ ap (name_text plan) (sym at) in
    let found : poster_of plan (name_text plan n ++ id_text place) ≡ k =
    ap (λ w. unwrap_or (position (is_agent_with plan w) plan.agents) 0) first ∙ ap (λ o. unwrap_or o 0) (place_by_name plan h agent_name plan.agents h.agents k x within) in
    let last : k + 1 ≡ suc k = omega arith in
    cond-false _ _ _ (not_pnp (name_text plan n) place dots free) ∙ ap (λ p. p + 1) found ∙ last

pub agent_of-agent_text : (plan : Plan) → HasNames plan → (agent : ℕ) → agent ≤ length plan.agents → agent_of plan (agent_text plan agent) ≡ agent
agent_of-agent_text plan h zero within = refl
agent_of-agent_text plan h (suc k) within =
    let inside : k < length plan.agents = omega arith in
    let (x, got, same) = item_at plan.agents k inside in
    ap (agent_of plan) (agent_text-suc plan k x got) ∙ found_by_name plan h k x inside same (position (is_poster (agent_name x)) plan.declared)

-- an id has no blank
id_lacks : (place : Option ℕ) (size : ℕ) → size < 2 ^ 32 → ((k : ℕ) → place ≡ Some k → k < size) → Lacks 32 (id_text place)
id_lacks None size small within = record { each = refl }
id_lacks (Some k) size small within =
    let here : k < size = within k refl in
    let wide : k + 1 < 2 ^ 64 = omega arith in
    record { each = (Lacks_decimal 32 (k + 1) refl wide).each }

-- the word of an agent has no blank
pub agent_lacks : (plan : Plan) → HasNames plan → (agent : ℕ) → agent ≤ length plan.agents → Lacks 32 (agent_text plan agent)
agent_lacks plan h zero within = record { each = refl }
agent_lacks plan h (suc k) within =
    let inside : k < length plan.agents = omega arith in
    let (x, got, same) = item_at plan.agents k inside in
    let at : agent_name (get_or plan.agents k x) ≡ agent_name x = ap agent_name same in
    let there : agent_name x < length plan.names = rw (← at) (h.agents.there k x inside) in
    rw (agent_text-suc plan k x got)
    (Lacks_append 32 (name_text plan (agent_name x)) (id_text (position (is_poster (agent_name x)) plan.declared)) (name_lacks_blank plan h (agent_name x) there)
    (id_lacks (position (is_poster (agent_name x)) plan.declared) (length plan.declared) h.few (position_within (is_poster (agent_name x)) plan.declared)))
