-- The devices of two plans have their actions in one order, where their scenes are the same but for line numbers, and these rise.
use Rattle.std.proofs.Common.{◌≡◌, ◌⊎◌, inl, inr, ℕ, zero, suc, ◌+◌, ◌<◌, ◌≤◌, ◌==◌, Bool, true, false, cond, nat_lt, List, [], ◌∷◌, ◌++◌, map, fold, Option, Some, None, option_map, slice_get, Result, Ok, Err, refl, sym, ap, ◌∙◌, subst, arith}
use Rattle.std.specs.List.{cons_option, filter_map}
use Rattle.std.proofs.lemmas.Bool.{lt-ltb, ltb-true, ltb-false}
use Rattle.std.proofs.lemmas.List.{map-append}
use Rattle.wdf_base.specs.Plan.{agent_posts, posts_of}
use Rattle.wdf_base.specs.declared.declared.PostLine.{PostLine}
use Rattle.wdf_base.specs.declared.declared.WhenLine.{WhenLine}
use Rattle.wdf_base.specs.declared.event.Post.{Post}
use Rattle.wdf_base.specs.declared.event.Post.TheVariants as post
use Rattle.wdf_base.specs.declared.plan.Plan.{Plan}
use Rattle.wdf_base.specs.declared.script.AgentInfo.{AgentInfo}
use Rattle.wdf_scene.specs.Written.{WrittenLine, lines_at}
use Rattle.wdf_scene.specs.declared.line.NumberedLine.{NumberedLine}
use Rattle.wdf_scene.specs.declared.line.SceneLine.{SceneLine}
use Rattle.wdf_scene.specs.declared.line.SceneLine.TheVariants as line
use Rattle.wdf_scene.specs.declared.scene.Scene.{Scene}
use Rattle.wdf_tokens.specs.Tokens.{line_reading, lines_of}
use Rattle.wdf_tokens.specs.declared.lexer.TokenFault.{TokenFault}
use Rattle.wdf_tokens.specs.declared.token.Token.{Token}
use Rattle.wdf_parse.specs.StandsFor.{StandsFor, TokenLine, spelled_line, token_lines, version_lines, with_token_line, without_numbers}
use Rattle.wdf_blocks.specs.declared.declaration.Declaration.{Declaration}
use Rattle.wdf_blocks.specs.declared.declaration.Wanted.TheVariants as wanted
use Rattle.wdf_blocks.specs.declared.placed.Counts.{Counts}
use Rattle.wdf_blocks.specs.declared.placed.Placed.{Placed}
use Rattle.wdf_blocks.specs.declared.placed.Stand.{Stand}
use Rattle.wdf_blocks.specs.Declarations.{declarations}
use Rattle.wdf_blocks.specs.Placed.{nothing, opened_by, outside, placed, placed_from}
use Rattle.wdf_refusals.specs.Numbers.{name_number}
use Rattle.wdf_plan.specs.Parts.{agent, app_agent, app_post, app_post_in, device_agent, device_post, device_post_in, pnp_post, stands_in, target_agent, when_on}
use Rattle.wdf_plan.specs.Plans.{all_agents, plan_of, plan_with}
use Rattle.wdf_model.specs.declared.entries.DeviceAction.{DeviceAction}
use Rattle.wdf_model.specs.Plans.{device_of_register}
use Rattle.wdf_model.specs.agents.Device.{among, at_action, device_actions, when_action}
use Rattle.law_bare.specs.Agents.{SameActions, bare_action}
use Rattle.law_bare.specs.Lines.{bare_when, without_lines}
use Rattle.law_bare.proofs.Lists.{at_mapped, gathered_alike}
use Rattle.law_canonical.proofs.Numbers.{act_alike, handle_alike, name_alike, number_alike}
use Rattle.law_canonical.proofs.Plans.{plan_alike}
use Rattle.law_canonical.proofs.Scenes.{names_alike, places_alike, undeclared, unplaced}

-- ---- numbers that rise

abbrev pub IsRising : ℕ → List NumberedLine → Type 0
IsRising base [] = Unit {0}
IsRising base (l ∷ ls) = (base ≤ l.number) × IsRising (suc l.number) ls

abbrev Rises : ℕ → List TokenLine → Type 0
Rises base [] = Unit {0}
Rises base (t ∷ ts) = (base ≤ t.number) × Rises (suc t.number) ts

lower : (m n : ℕ) (ts : List TokenLine) → n ≤ m → Rises m ts → Rises n ts
lower m n [] h r = tt
lower m n (t ∷ ts) h r = (let first = r.0 in omega (arith, h, first), r.1)

rises_by : (n : ℕ) (r : Result (List Token) TokenFault) (rest : Option (List TokenLine)) (ts : List TokenLine) → ((us : List TokenLine) → rest ≡ Some us → Rises (suc n) us) → with_token_line n r rest ≡ Some ts → Rises n ts
rises_by n (Ok []) rest ts h e = lower (suc n) n ts (omega arith) (h ts e)
rises_by n (Ok (t ∷ us)) (Some rs) ts h e =
    let same : record { number = n; tokens = t ∷ us } ∷ rs ≡ ts = cc in
    subst (Rises n) same ((omega arith, h rs refl))
rises_by n (Ok (t ∷ us)) None ts h e = absurd (let z : ⊥ = cc in z)
rises_by n (Err f) rest ts h e = absurd (let z : ⊥ = cc in z)

tokens_rise : (n : ℕ) (lines : List (List ℕ)) (ts : List TokenLine) → token_lines n lines ≡ Some ts → Rises n ts
tokens_rise n [] ts e = let same : [] ≡ ts = cc in subst (Rises n) same tt
tokens_rise n (l ∷ ls) ts e = rises_by n (line_reading l) (token_lines (suc n) ls) ts (tokens_rise (suc n) ls) e

behind : (n : ℕ) (xs ys : List TokenLine) → Rises n (xs ++ ys) → Rises n ys
behind n [] ys r = r
behind n (x ∷ xs) ys r = lower (suc x.number) n ys (let first = r.0 in omega (arith, first)) (behind (suc x.number) xs ys r.1)

written_rise : (n base : ℕ) (ws : List WrittenLine) → Rises n (map spelled_line ws) → IsRising n (lines_at base ws)
written_rise n base [] r = tt
written_rise n base (w ∷ ws) r = (r.0, written_rise (suc w.number) _ ws r.1)

-- the lines of a text have rising numbers
pub lines_rise : (text : List ℕ) (s : Scene) → StandsFor text s → IsRising 1 s.lines
lines_rise text s stands =
    let all : Rises 1 (version_lines s.version stands.first ++ map spelled_line stands.ws) = tokens_rise 1 (lines_of text) (version_lines s.version stands.first ++ map spelled_line stands.ws) stands.tokens in
    subst (λ (x : Scene). IsRising 1 x.lines) (sym stands.is) (written_rise 1 0 stands.ws (behind 1 (version_lines s.version stands.first) (map spelled_line stands.ws) all))

-- the number of a line, by its place; past the lines it rises further
abbrev rise : ℕ → List NumberedLine → ℕ → ℕ
rise base [] i = base + i
rise base (l ∷ ls) zero = l.number
rise base (l ∷ ls) (suc i) = rise (suc l.number) ls i

above : (base : ℕ) (ls : List NumberedLine) (i : ℕ) → IsRising base ls → base ≤ rise base ls i
above base [] i r = omega arith
above base (l ∷ ls) zero r = r.0
above base (l ∷ ls) (suc i) r = let more : suc l.number ≤ rise (suc l.number) ls i = above (suc l.number) ls i r.1 in let first = r.0 in omega (arith, more, first)

higher : (base : ℕ) (ls : List NumberedLine) (i j : ℕ) → IsRising base ls → i < j → rise base ls i < rise base ls j
higher base [] i j r h = omega (arith, h)
higher base (l ∷ ls) zero zero r h = absurd (omega (arith, h))
higher base (l ∷ ls) zero (suc j) r h = above (suc l.number) ls j r.1
higher base (l ∷ ls) (suc i) zero r h = absurd (omega (arith, h))
higher base (l ∷ ls) (suc i) (suc j) r h = higher (suc l.number) ls i j r.1 (omega (arith, h))

module _ (base : ℕ) (ls : List NumberedLine) (r : IsRising base ls) where
  not_above : (i j : ℕ) → j ≤ i → nat_lt (rise base ls i) (rise base ls j) ≡ true → ⊥
  not_above i j h e = elim (less_or_same i j h) [
    | inl less ↦ let more = higher base ls j i r less in let other = ltb-true (rise base ls i) (rise base ls j) e in omega (arith, more, other)
    | inr same ↦ let other = ltb-true (rise base ls i) (rise base ls j) e in let equal : rise base ls i ≡ rise base ls j = ap (rise base ls) (sym same) in omega (arith, other, equal)
  ]
    where
      less_or_same : (i j : ℕ) → j ≤ i → (j < i) ⊎ (j ≡ i)
      less_or_same zero zero h = inr refl
      less_or_same zero (suc j) h = absurd (omega (arith, h))
      less_or_same (suc i) zero h = inl (omega arith)
      less_or_same (suc i) (suc j) h = elim (less_or_same i j (omega (arith, h))) [
        | inl less ↦ inl (omega (arith, less))
        | inr same ↦ inr (ap suc same)
      ]

  order_by : (i j : ℕ) (b c : Bool) → nat_lt i j ≡ b → nat_lt (rise base ls i) (rise base ls j) ≡ c → c ≡ b
  order_by i j true true e f = refl
  order_by i j false false e f = refl
  order_by i j true false e f = absurd (let more : nat_lt (rise base ls i) (rise base ls j) ≡ true = lt-ltb (rise base ls i) (rise base ls j) (higher base ls i j r (ltb-true i j e)) in let z : ⊥ = cc (sym more ∙ f) in z)
  order_by i j false true e f = absurd (not_above i j (ltb-false i j e) f)

  order_same : (i j : ℕ) → nat_lt (rise base ls i) (rise base ls j) ≡ nat_lt i j
  order_same i j = order_by i j (nat_lt i j) (nat_lt (rise base ls i) (rise base ls j)) refl refl

-- ---- other numbers for the lines of a plan's lists

abbrev new_when : (ℕ → ℕ) → WhenLine → WhenLine
new_when f w = record w { line = f w.line }

abbrev new_post : (ℕ → ℕ) → PostLine → PostLine
new_post f l = record l { line = f l.line }

abbrev new_agent : (ℕ → ℕ) → AgentInfo → AgentInfo
new_agent f a = record a { posts = map (new_post f) a.posts }

abbrev new_action : (ℕ → ℕ) → DeviceAction → DeviceAction
new_action f l = record l { line = f l.line; trigger = option_map (new_when f) l.trigger }

bare_new : (f : ℕ → ℕ) (l : DeviceAction) → bare_action (new_action f l) ≡ bare_action l
bare_new f l = ap (λ t. record l { line = 0; trigger = t }) (by l.trigger)
  where
    by : (o : Option WhenLine) → option_map bare_when (option_map (new_when f) o) ≡ option_map bare_when o
    by None = refl
    by (Some w) = refl

bare_all : (f : ℕ → ℕ) (ls : List DeviceAction) → map bare_action (map (new_action f) ls) ≡ map bare_action ls
bare_all f [] = refl
bare_all f (l ∷ ls) = ap (λ x. x ∷ map bare_action (map (new_action f) ls)) (bare_new f l) ∙ ap (λ xs. bare_action l ∷ xs) (bare_all f ls)

-- numbers in the same order leave the order
module _ (f : ℕ → ℕ) (same : (i j : ℕ) → nat_lt (f i) (f j) ≡ nat_lt i j) where
  among_by : (l y : DeviceAction) (ys : List DeviceAction) (b : Bool) → nat_lt l.line y.line ≡ b → among (map (new_action f) ys) (new_action f l) ≡ map (new_action f) (among ys l)
      → among (map (new_action f) (y ∷ ys)) (new_action f l) ≡ map (new_action f) (among (y ∷ ys) l)
  among_by l y ys true e rest = rw (same l.line y.line, e) refl
  among_by l y ys false e rest = rw (same l.line y.line, e) (ap (λ xs. new_action f y ∷ xs) rest)

  among_same : (ys : List DeviceAction) (l : DeviceAction) → among (map (new_action f) ys) (new_action f l) ≡ map (new_action f) (among ys l)
  among_same [] l = refl
  among_same (y ∷ ys) l = among_by l y ys (nat_lt l.line y.line) refl (among_same ys l)

  all_among : (ls ys : List DeviceAction) → fold among (map (new_action f) ys) (map (new_action f) ls) ≡ map (new_action f) (fold among ys ls)
  all_among [] ys = refl
  all_among (l ∷ ls) ys = ap (λ xs. fold among xs (map (new_action f) ls)) (among_same ys l) ∙ all_among ls (among ys l)

module _ (f : ℕ → ℕ) (plan : Plan) (d : ℕ) where
  when_by : (w : WhenLine) (b : Bool) → (device_of_register plan w.register == d) ≡ b → when_action plan d (new_when f w) ≡ option_map (new_action f) (when_action plan d w)
  when_by w true e = rw e refl
  when_by w false e = rw e refl

  when_new : (w : WhenLine) → when_action plan d (new_when f w) ≡ option_map (new_action f) (when_action plan d w)
  when_new w = when_by w (device_of_register plan w.register == d) refl

  at_new : (tick line : ℕ) (p : Post) → at_action (new_post f (record { tick = tick; post = p; line = line })) ≡ option_map (new_action f) (at_action (record { tick = tick; post = p; line = line }))
  at_new tick line (post.Act a) = refl
  at_new tick line (post.Read e n) = refl
  at_new tick line (post.Write e n) = refl
  at_new tick line (post.Control e c n) = refl
  at_new tick line (post.Cancel k) = refl
  at_new tick line (post.Ask a e) = refl
  at_new tick line (post.Done r s) = refl

-- ---- the lists of a plan, with the place of each line for its number

abbrev at_when : ℕ → WhenLine → WhenLine
at_when n w = record w { line = n }

abbrev at_post : ℕ → PostLine → PostLine
at_post n l = record l { line = n }

abbrev Each : {T : Type 0} → (T → Type 0) → List T → Type 0
Each P [] = Unit {0}
Each P (x ∷ xs) = P x × Each P xs

module _ {X Y : Type 0} (P : X → Type 0) (u : X → X) (v : Y → Y) (f g : X → Option Y) (same : (x : X) → P x → f x ≡ option_map v (g (u x))) where
  cons_new : (o : Option Y) (ys : List Y) → cons_option (option_map v o) (map v ys) ≡ map v (cons_option o ys)
  cons_new None ys = refl
  cons_new (Some y) ys = refl

  gathered_new : (xs : List X) → Each P xs → filter_map f xs ≡ map v (filter_map g (map u xs))
  gathered_new [] each = refl
  gathered_new (x ∷ xs) each =
      ap (λ o. cons_option o (filter_map f xs)) (same x each.0) ∙ ap (cons_option (option_map v (g (u x)))) (gathered_new xs each.1) ∙ cons_new (g (u x)) (filter_map g (map u xs))

when_placed : (f : ℕ → ℕ) (k n : ℕ) (o : Option WhenLine) → n ≡ f k → option_map (at_when n) o ≡ option_map (new_when f) (option_map (at_when k) o)
when_placed f k n None e = refl
when_placed f k n (Some w) e = ap (λ i. Some (at_when i w)) e

post_placed : (f : ℕ → ℕ) (k n : ℕ) (o : Option PostLine) → n ≡ f k → option_map (at_post n) o ≡ option_map (new_post f) (option_map (at_post k) o)
post_placed f k n None e = refl
post_placed f k n (Some l) e = ap (λ i. Some (at_post i l)) e

module _ (names : List Declaration) where
  abbrev bare_names : List Declaration
  bare_names = map undeclared names

  when_at : (number : ℕ) (device : Option ℕ) (f : SceneLine) → when_on names number device f ≡ option_map (at_when number) (when_on bare_names 0 device f)
  unfolding when_on
  when_at number device (line.When access r a after) = rw (number_alike names r (wanted.RegisterOf device), act_alike names device a) refl
  when_at number device _ = refl

  pnp_at : (number : ℕ) (f : SceneLine) → pnp_post names number f ≡ option_map (at_post number) (pnp_post bare_names 0 f)
  unfolding pnp_post
  pnp_at number (line.AtAsk tick ask d) = rw (handle_alike names d wanted.Device) refl
  pnp_at number _ = refl

  app_at : (number : ℕ) (f : SceneLine) → app_post names number f ≡ option_map (at_post number) (app_post bare_names 0 f)
  unfolding app_post
  app_at number (line.AtRead tick d n) = rw (handle_alike names d wanted.Device) refl
  app_at number (line.AtWrite tick d n) = rw (handle_alike names d wanted.Device) refl
  app_at number (line.AtControl tick d code n) = rw (handle_alike names d wanted.Device) refl
  app_at number (line.AtCancel tick k) = refl
  app_at number _ = refl

  device_at : (number : ℕ) (device : Option ℕ) (f : SceneLine) → device_post names number device f ≡ option_map (at_post number) (device_post bare_names 0 device f)
  unfolding device_post
  device_at number device (line.At tick a) = rw (act_alike names device a) refl
  device_at number device _ = refl

  cond_at : (number : ℕ) (b : Bool) (o : Option PostLine) → cond b (option_map (at_post number) o) None ≡ option_map (at_post number) (cond b o None)
  cond_at number true o = refl
  cond_at number false o = refl

  app_in_at : (b : ℕ) (p : Placed) → app_post_in names b p ≡ option_map (at_post p.number) (app_post_in bare_names b (unplaced p))
  app_in_at b p = ap (λ o. cond (stands_in b p) o None) (app_at p.number p.form) ∙ cond_at p.number (stands_in b p) (app_post bare_names 0 p.form)

  device_in_at : (b : ℕ) (p : Placed) → device_post_in names b p ≡ option_map (at_post p.number) (device_post_in bare_names b (unplaced p))
  device_in_at b p = ap (λ o. cond (stands_in b p) o None) (device_at p.number p.stand.device p.form) ∙ cond_at p.number (stands_in b p) (device_post bare_names 0 p.stand.device p.form)

-- the same, of a scene without numbers and what it declares
module _ (bare : Scene) (names : List Declaration) where
  abbrev placed_when : Placed → Option WhenLine
  placed_when q = option_map (at_when q.at) (when_on names 0 q.stand.device q.form)

  abbrev placed_whens : List WhenLine
  placed_whens = filter_map placed_when (placed bare)

  abbrev placed_pnp : Placed → Option PostLine
  placed_pnp q = option_map (at_post q.at) (pnp_post names 0 q.form)

  abbrev placed_app : ℕ → Placed → Option PostLine
  placed_app b q = option_map (at_post q.at) (app_post_in names b q)

  abbrev placed_device : ℕ → Placed → Option PostLine
  placed_device b q = option_map (at_post q.at) (device_post_in names b q)

  abbrev app_here : Placed → SceneLine → Option AgentInfo
  app_here q (line.App n) = Some (agent (name_number names n) (filter_map (placed_app q.at) (placed bare)))
  app_here q _ = None

  abbrev device_here : Placed → SceneLine → Option AgentInfo
  device_here q (line.Device n working) = Some (agent (name_number names n) (filter_map (placed_device q.at) (placed bare)))
  device_here q _ = None

  abbrev placed_agents : List AgentInfo
  placed_agents = filter_map (λ q. app_here q q.form) (placed bare) ++ filter_map (λ q. device_here q q.form) (placed bare) ++ filter_map (λ q. target_agent names q.form) (placed bare)

  abbrev placed_posts : ℕ → List PostLine
  placed_posts zero = filter_map placed_pnp (placed bare)
  placed_posts (suc j) = agent_posts (slice_get placed_agents j)

  abbrev placed_actions : Plan → ℕ → ℕ → List DeviceAction
  placed_actions plan d k = fold among (filter_map (when_action plan d) placed_whens) (filter_map at_action (placed_posts k))

-- ---- the plan of a scene

numbered : (k base : ℕ) (o : Stand) (c : Counts) (ls : List NumberedLine) (f : ℕ → ℕ) → ((i : ℕ) → f (k + i) ≡ rise base ls i) → Each (λ (p : Placed). p.number ≡ f p.at) (placed_from k o c ls)
unfolding placed_from
numbered k base o c [] f h = tt
numbered k base o c (l ∷ ls) f h = (
  (let here : k + 0 ≡ k = omega arith in sym (subst (λ n. f n ≡ l.number) here (h 0))),
  numbered (suc k) (suc l.number) (opened_by o k l.form) _ ls f (λ i. let next : k + suc i ≡ suc k + i = omega arith in subst (λ n. f n ≡ rise (suc l.number) ls i) next (h (suc i))),
)

module _ (s : Scene) (rising : IsRising 1 s.lines) where
  abbrev number_of_line : ℕ → ℕ
  number_of_line = rise 1 s.lines

  abbrev bare : Scene
  bare = without_numbers s

  abbrev names : List Declaration
  names = declarations s

  each_numbered : Each (λ (p : Placed). p.number ≡ number_of_line p.at) (placed s)
  unfolding placed
  each_numbered = numbered 0 1 outside nothing s.lines number_of_line (λ i. let z : 0 + i ≡ i = omega arith in ap number_of_line z)

  module _ {Y : Type 0} (v : Y → Y) (f g : Placed → Option Y) (same : (p : Placed) → p.number ≡ number_of_line p.at → f p ≡ option_map v (g (unplaced p))) where
    gathered : filter_map f (placed s) ≡ map v (filter_map g (placed bare))
    gathered = gathered_new (λ (p : Placed). p.number ≡ number_of_line p.at) unplaced v f g same (placed s) each_numbered ∙ ap (λ ps. map v (filter_map g ps)) (sym (places_alike s))

  whens_new : filter_map (λ p. when_on names p.number p.stand.device p.form) (placed s) ≡ map (new_when number_of_line) (placed_whens bare (map undeclared names))
  whens_new =
      gathered (new_when number_of_line) (λ p. when_on names p.number p.stand.device p.form) (placed_when bare (map undeclared names))
      (λ p h. when_at names p.number p.stand.device p.form ∙ when_placed number_of_line p.at p.number (when_on (map undeclared names) 0 p.stand.device p.form) h)

  pnp_new : filter_map (λ p. pnp_post names p.number p.form) (placed s) ≡ map (new_post number_of_line) (filter_map (placed_pnp bare (map undeclared names)) (placed bare))
  pnp_new =
      gathered (new_post number_of_line) (λ p. pnp_post names p.number p.form) (placed_pnp bare (map undeclared names))
      (λ p h. pnp_at names p.number p.form ∙ post_placed number_of_line p.at p.number (pnp_post (map undeclared names) 0 p.form) h)

  app_posts_new : (b : ℕ) → filter_map (app_post_in names b) (placed s) ≡ map (new_post number_of_line) (filter_map (placed_app bare (map undeclared names) b) (placed bare))
  app_posts_new b =
      gathered (new_post number_of_line) (app_post_in names b) (placed_app bare (map undeclared names) b)
      (λ p h. app_in_at names b p ∙ post_placed number_of_line p.at p.number (app_post_in (map undeclared names) b (unplaced p)) h)

  device_posts_new : (b : ℕ) → filter_map (device_post_in names b) (placed s) ≡ map (new_post number_of_line) (filter_map (placed_device bare (map undeclared names) b) (placed bare))
  device_posts_new b =
      gathered (new_post number_of_line) (device_post_in names b) (placed_device bare (map undeclared names) b)
      (λ p h. device_in_at names b p ∙ post_placed number_of_line p.at p.number (device_post_in (map undeclared names) b (unplaced p)) h)

  app_new : (p : Placed) (f : SceneLine) → app_agent s names p f ≡ option_map (new_agent number_of_line) (app_here bare (map undeclared names) (unplaced p) f)
  unfolding app_agent
  app_new p (line.App n) = ap (λ k. Some (agent k (filter_map (app_post_in names p.at) (placed s)))) (sym (name_alike names n)) ∙ ap (λ ps. Some (agent (name_number (map undeclared names) n) ps)) (app_posts_new p.at)
  app_new p _ = refl

  device_new : (p : Placed) (f : SceneLine) → device_agent s names p f ≡ option_map (new_agent number_of_line) (device_here bare (map undeclared names) (unplaced p) f)
  unfolding device_agent
  device_new p (line.Device n working) =
      ap (λ k. Some (agent k (filter_map (device_post_in names p.at) (placed s)))) (sym (name_alike names n)) ∙ ap (λ ps. Some (agent (name_number (map undeclared names) n) ps)) (device_posts_new p.at)
  device_new p _ = refl

  target_new : (f : SceneLine) → target_agent names f ≡ option_map (new_agent number_of_line) (target_agent (map undeclared names) f)
  unfolding target_agent
  target_new (line.Target n delay status depth) = rw (name_alike names n) refl
  target_new _ = refl

  agents_new : all_agents s names ≡ map (new_agent number_of_line) (placed_agents bare (map undeclared names))
  unfolding all_agents
  agents_new =
      let f = new_agent number_of_line in
      let xs = filter_map (λ q. app_here bare (map undeclared names) q q.form) (placed bare) in
      let ys = filter_map (λ q. device_here bare (map undeclared names) q q.form) (placed bare) in
      let zs = filter_map (λ (q : Placed). target_agent (map undeclared names) q.form) (placed bare) in
      rw (gathered f (λ p. app_agent s names p p.form) (λ q. app_here bare (map undeclared names) q q.form) (λ p h. app_new p p.form), gathered f (λ p. device_agent s names p p.form) (λ q. device_here bare (map undeclared names) q q.form) (λ p h. device_new p p.form), gathered f (λ p. target_agent names p.form) (λ q. target_agent (map undeclared names) q.form) (λ p h. target_new p.form))
      (three f xs ys zs)
    where
      three : (f : AgentInfo → AgentInfo) (xs ys zs : List AgentInfo) → map f xs ++ map f ys ++ map f zs ≡ map f (xs ++ ys ++ zs)
      three f xs ys zs = rw (map-append f, map-append f) refl

  posts_by : (o : Option AgentInfo) → agent_posts (option_map (new_agent number_of_line) o) ≡ map (new_post number_of_line) (agent_posts o)
  posts_by None = refl
  posts_by (Some a) = refl

  posts_new : (k : ℕ) → posts_of (plan_of s) k ≡ map (new_post number_of_line) (placed_posts bare (map undeclared names) k)
  unfolding plan_of plan_with
  posts_new zero = pnp_new
  posts_new (suc j) =
      ap (λ xs. agent_posts (slice_get xs j)) agents_new
      ∙ ap agent_posts (at_mapped (new_agent number_of_line) (placed_agents bare (map undeclared names)) j) ∙ posts_by (slice_get (placed_agents bare (map undeclared names)) j)

  whens_are : (plan_of s).whens ≡ map (new_when number_of_line) (placed_whens bare (map undeclared names))
  unfolding plan_of plan_with
  whens_are = whens_new

  actions_new : (d k : ℕ) → device_actions (plan_of s) d k ≡ map (new_action number_of_line) (placed_actions bare (map undeclared names) (plan_of s) d k)
  actions_new d k =
      let f = number_of_line in
      ap (λ ws. fold among (filter_map (when_action (plan_of s) d) ws) (filter_map at_action (posts_of (plan_of s) k))) whens_are
      ∙ ap (λ ps. fold among (filter_map (when_action (plan_of s) d) (map (new_when f) (placed_whens bare (map undeclared names)))) (filter_map at_action ps)) (posts_new k)
      ∙ ap (λ ws. fold among ws (filter_map at_action (map (new_post f) (placed_posts bare (map undeclared names) k))))
      (gathered_alike (new_when f) (new_action f) (when_action (plan_of s) d) (when_action (plan_of s) d) (when_new f (plan_of s) d) (placed_whens bare (map undeclared names)))
      ∙ ap (fold among (map (new_action f) (filter_map (when_action (plan_of s) d) (placed_whens bare (map undeclared names)))))
      (gathered_alike (new_post f) (new_action f) at_action at_action (λ l. at_new f (plan_of s) d l.tick l.line l.post) (placed_posts bare (map undeclared names) k))
      ∙ all_among f (order_same 1 s.lines rising) (filter_map at_action (placed_posts bare (map undeclared names) k)) (filter_map (when_action (plan_of s) d) (placed_whens bare (map undeclared names)))

  -- the actions without numbers, of the scene without numbers
  actions_bare : (d k : ℕ) → map bare_action (device_actions (plan_of s) d k) ≡ map bare_action (placed_actions bare (declarations bare) (plan_of bare) d k)
  actions_bare d k =
      ap (map bare_action) (actions_new d k) ∙ bare_all number_of_line (placed_actions bare (map undeclared names) (plan_of s) d k)
      ∙ ap (λ ds. map bare_action (placed_actions bare ds (without_lines (plan_of s)) d k)) (sym (names_alike s))
      ∙ ap (λ P. map bare_action (placed_actions bare (declarations bare) P d k)) (sym (plan_alike s))

pub actions_alike : (a b : Scene) → without_numbers a ≡ without_numbers b → IsRising 1 a.lines → IsRising 1 b.lines → SameActions (plan_of a) (plan_of b)
actions_alike a b same r t d k =
    actions_bare a r d k ∙ ap (λ s. map bare_action (placed_actions s (declarations s) (plan_of s) d k)) same ∙ sym (actions_bare b t d k)
