-- What the lists of a plan have of each line is the same without ticks, but for the ticks of posts.
use Rattle.std.proofs.Common.{◌≡◌, ℕ, Bool, true, false, cond, List, [], ◌∷◌, map, Option, Some, None, option_map, unwrap_or, refl, ap, ◌∙◌}
use Rattle.std.specs.Prelude.{option_and_then}
use Rattle.std.specs.List.{cons_option, filter_map}
use Rattle.wdf_base.specs.declared.declared.Declared.TheVariants as declared
use Rattle.wdf_base.specs.declared.declared.DispatchKind.{DispatchKind}
use Rattle.wdf_base.specs.declared.declared.PostLine.{PostLine}
use Rattle.wdf_base.specs.declared.object.RequestForm.TheVariants as form
use Rattle.wdf_scene.specs.declared.line.SceneLine.{SceneLine}
use Rattle.wdf_scene.specs.declared.line.SceneLine.TheVariants as line
use Rattle.wdf_scene.specs.declared.scene.Scene.{Scene}
use Rattle.wdf_blocks.specs.declared.attribute.Attribute.TheVariants as attribute
use Rattle.wdf_blocks.specs.declared.declaration.Declaration.{Declaration}
use Rattle.wdf_blocks.specs.declared.placed.Placed.{Placed}
use Rattle.wdf_blocks.specs.Blocks.{driver_line, effective_scope, form_at, given, given_scope, scope_in, ticks_in}
use Rattle.wdf_blocks.specs.Placed.{placed}
use Rattle.wdf_refusals.specs.Numbers.{name_number}
use Rattle.wdf_plan.specs.Parts.{agent, app_agent, app_post, app_post_in, class_on, device_agent, device_info, device_post, device_post_in, object_of, period_of, pnp_post, queue_info, register_on, serves, stands_in, target_agent, when_on}
use Rattle.law_moved.specs.Ticks.{early_agent, early_post}
use Rattle.law_moved.proofs.Untimed.{by_form, untimed, untimed_scene}
use Rattle.law_moved.proofs.Forms.{scope_in_alike}
use Rattle.law_moved.proofs.Scenes.{block_alike, driver_alike, effective_alike, given_alike, has_given_alike, places_alike, read_alike, unplaced}

-- ---- lists that are the same but for ticks

module _ {X Y : Type 0} (u : X → X) (v : Y → Y) where
  early_cons : (a b : Option Y) (xs ys : List Y) → option_map v a ≡ option_map v b → map v xs ≡ map v ys → map v (cons_option a xs) ≡ map v (cons_option b ys)
  early_cons None None xs ys e h = h
  early_cons None (Some y) xs ys e h = absurd (let z : ⊥ = cc in z)
  early_cons (Some x) None xs ys e h = absurd (let z : ⊥ = cc in z)
  early_cons (Some x) (Some y) xs ys e h = let same : v x ≡ v y = cc in ap (λ z. z ∷ map v xs) same ∙ ap (λ zs. v y ∷ zs) h

  pub gathered_early : (f g : X → Option Y) → ((x : X) → option_map v (f (u x)) ≡ option_map v (g x)) → (xs : List X) → map v (filter_map f (map u xs)) ≡ map v (filter_map g xs)
  gathered_early f g same [] = refl
  gathered_early f g same (x ∷ xs) = early_cons (f (u x)) (g x) (filter_map f (map u xs)) (filter_map g xs) (same x) (gathered_early f g same xs)

-- ---- posts

module _ (names : List Declaration) where
  pub pnp_alike : (number : ℕ) (f : SceneLine) → option_map early_post (pnp_post names number (untimed f)) ≡ option_map early_post (pnp_post names number f)
  unfolding pnp_post
  pnp_alike number f = by_form (λ x. option_map early_post (pnp_post names number x)) (λ t u a. refl) (λ t u d n. refl) (λ t u d n. refl) (λ t u d c n. refl) (λ t u k. refl) (λ t u a d. refl) f

  app_post_alike : (number : ℕ) (f : SceneLine) → option_map early_post (app_post names number (untimed f)) ≡ option_map early_post (app_post names number f)
  unfolding app_post
  app_post_alike number f = by_form (λ x. option_map early_post (app_post names number x)) (λ t u a. refl) (λ t u d n. refl) (λ t u d n. refl) (λ t u d c n. refl) (λ t u k. refl) (λ t u a d. refl) f

  device_post_alike : (number : ℕ) (device : Option ℕ) (f : SceneLine) → option_map early_post (device_post names number device (untimed f)) ≡ option_map early_post (device_post names number device f)
  unfolding device_post
  device_post_alike number device f = by_form (λ x. option_map early_post (device_post names number device x)) (λ t u a. refl) (λ t u d n. refl) (λ t u d n. refl) (λ t u d c n. refl) (λ t u k. refl) (λ t u a d. refl) f

  early_if : (b : Bool) (x y : Option PostLine) → option_map early_post x ≡ option_map early_post y → option_map early_post (cond b x None) ≡ option_map early_post (cond b y None)
  early_if true x y e = e
  early_if false x y e = refl

  app_in_alike : (b : ℕ) (p : Placed) → option_map early_post (app_post_in names b (unplaced p)) ≡ option_map early_post (app_post_in names b p)
  app_in_alike b p = early_if (stands_in b p) (app_post names p.number (untimed p.form)) (app_post names p.number p.form) (app_post_alike p.number p.form)

  device_in_alike : (b : ℕ) (p : Placed) → option_map early_post (device_post_in names b (unplaced p)) ≡ option_map early_post (device_post_in names b p)
  device_in_alike b p = early_if (stands_in b p) (device_post names p.number p.stand.device (untimed p.form)) (device_post names p.number p.stand.device p.form) (device_post_alike p.number p.stand.device p.form)

  pub target_alike : (f : SceneLine) → target_agent names (untimed f) ≡ target_agent names f
  unfolding target_agent
  target_alike f = by_form (target_agent names) (λ t u a. refl) (λ t u d n. refl) (λ t u d n. refl) (λ t u d c n. refl) (λ t u k. refl) (λ t u a d. refl) f

  pub register_alike : (p : Placed) → register_on names (unplaced p) (untimed p.form) ≡ register_on names p p.form
  unfolding register_on
  register_alike p =
      by_form (register_on names (unplaced p)) (λ t u a. refl) (λ t u d n. refl) (λ t u d n. refl) (λ t u d c n. refl) (λ t u k. refl) (λ t u a d. refl) p.form ∙ here p.form
    where
      here : (f : SceneLine) → register_on names (unplaced p) f ≡ register_on names p f
      here (line.Register n v) = refl
      here _ = refl

  pub when_alike : (number : ℕ) (device : Option ℕ) (f : SceneLine) → when_on names number device (untimed f) ≡ when_on names number device f
  unfolding when_on
  when_alike number device f = by_form (when_on names number device) (λ t u a. refl) (λ t u d n. refl) (λ t u d n. refl) (λ t u d c n. refl) (λ t u k. refl) (λ t u a d. refl) f

  -- ---- the lines of a scene

  module _ (s : Scene) where
    abbrev bare : Scene
    bare = untimed_scene s

    scope_alike : (b : ℕ) → given_scope bare b ≡ given_scope s b
    unfolding given_scope
    scope_alike b =
        ap (λ o. option_and_then scope_in (option_and_then (form_at bare) o)) (given_alike s b attribute.Scope)
        ∙ ap (option_and_then scope_in) (block_alike s (given s b attribute.Scope))
        ∙ read_alike scope_in scope_in_alike (option_and_then (form_at s) (given s b attribute.Scope))

    scope_of_any : (o : Option ℕ) → option_and_then (given_scope bare) o ≡ option_and_then (given_scope s) o
    scope_of_any None = refl
    scope_of_any (Some b) = scope_alike b

    effective_scope_alike : (b : ℕ) (device : Option ℕ) → effective_scope bare b device ≡ effective_scope s b device
    unfolding effective_scope
    effective_scope_alike b device = rw (scope_alike b, scope_of_any device, driver_alike s, scope_of_any (driver_line s)) refl

    device_alike : (b : ℕ) (n : List ℕ) (working : Bool) → device_info bare names b n working ≡ device_info s names b n working
    unfolding device_info
    device_alike b n working = rw (effective_scope_alike b None, effective_alike s b None) refl

    serves_alike : (b : ℕ) → serves bare b ≡ serves s b
    unfolding serves
    serves_alike b = rw (has_given_alike s b attribute.Default, has_given_alike s b (attribute.For form.Read), has_given_alike s b (attribute.For form.Write), has_given_alike s b (attribute.For form.Control)) refl

    queue_alike : (device : Option ℕ) (order b : ℕ) (n : List ℕ) (dispatch : DispatchKind) → queue_info bare names device order b n dispatch ≡ queue_info s names device order b n dispatch
    unfolding queue_info
    queue_alike device order b n dispatch =
        rw (serves_alike b, has_given_alike s b attribute.PowerOff, has_given_alike s b attribute.Zero, effective_scope_alike b device, effective_alike s b device) refl

    pub object_alike : (p : Placed) (b : ℕ) (f : SceneLine) → object_of bare names (unplaced p) b f ≡ object_of s names p b f
    unfolding object_of
    object_alike p b (line.Device n working) = ap (λ d. Some (declared.Device d)) (device_alike b n working)
    object_alike p b (line.Queue n dispatch) = ap (λ d. Some (declared.Queue d)) (queue_alike p.stand.device p.counts.device b n dispatch)
    object_alike p b (line.Interrupt n l) = refl
    object_alike p b (line.Target n delay status depth) = refl
    object_alike p b _ = refl

    pub object_untimed : (p : Placed) (b : ℕ) (f : SceneLine) → object_of bare names (unplaced p) b (untimed f) ≡ object_of s names p b f
    unfolding object_of
    object_untimed p b f = by_form (object_of bare names (unplaced p) b) (λ t u a. refl) (λ t u d n. refl) (λ t u d n. refl) (λ t u d c n. refl) (λ t u k. refl) (λ t u a d. refl) f ∙ object_alike p b f

    ticks_alike : (f : SceneLine) → ticks_in (untimed f) ≡ ticks_in f
    unfolding ticks_in
    ticks_alike f = by_form ticks_in (λ t u a. refl) (λ t u d n. refl) (λ t u d n. refl) (λ t u d c n. refl) (λ t u k. refl) (λ t u a d. refl) f

    period_alike : (b : ℕ) → period_of bare b ≡ period_of s b
    unfolding period_of
    period_alike b =
        ap (λ o. unwrap_or (option_and_then ticks_in (option_and_then (form_at bare) o)) 0) (given_alike s b attribute.Period)
        ∙ ap (λ o. unwrap_or (option_and_then ticks_in o) 0) (block_alike s (given s b attribute.Period))
        ∙ ap (λ o. unwrap_or o 0) (read_alike ticks_in ticks_alike (option_and_then (form_at s) (given s b attribute.Period)))

    class_here : (p : Placed) (f : SceneLine) → class_on bare names (unplaced p) f ≡ class_on s names p f
    unfolding class_on
    class_here p (line.Class n k) = refl
    class_here p (line.DeferredClass n k parent) = rw (has_given_alike s p.at attribute.Serialize, period_alike p.at) refl
    class_here p _ = refl

    pub class_alike : (p : Placed) (f : SceneLine) → class_on bare names (unplaced p) (untimed f) ≡ class_on s names p f
    unfolding class_on
    class_alike p f = by_form (class_on bare names (unplaced p)) (λ t u a. refl) (λ t u d n. refl) (λ t u d n. refl) (λ t u d c n. refl) (λ t u k. refl) (λ t u a d. refl) f ∙ class_here p f

    -- ---- agents

    app_posts_alike : (b : ℕ) → map early_post (filter_map (app_post_in names b) (placed bare)) ≡ map early_post (filter_map (app_post_in names b) (placed s))
    app_posts_alike b = ap (λ ps. map early_post (filter_map (app_post_in names b) ps)) (places_alike s) ∙ gathered_early unplaced early_post (app_post_in names b) (app_post_in names b) (app_in_alike b) (placed s)

    device_posts_alike : (b : ℕ) → map early_post (filter_map (device_post_in names b) (placed bare)) ≡ map early_post (filter_map (device_post_in names b) (placed s))
    device_posts_alike b = ap (λ ps. map early_post (filter_map (device_post_in names b) ps)) (places_alike s) ∙ gathered_early unplaced early_post (device_post_in names b) (device_post_in names b) (device_in_alike b) (placed s)

    app_here : (p : Placed) (f : SceneLine) → option_map early_agent (app_agent bare names (unplaced p) f) ≡ option_map early_agent (app_agent s names p f)
    unfolding app_agent
    app_here p (line.App n) = ap (λ ps. Some (agent (name_number names n) ps)) (app_posts_alike p.at)
    app_here p _ = refl

    pub app_alike : (p : Placed) (f : SceneLine) → option_map early_agent (app_agent bare names (unplaced p) (untimed f)) ≡ option_map early_agent (app_agent s names p f)
    unfolding app_agent
    app_alike p f =
        by_form (λ x. option_map early_agent (app_agent bare names (unplaced p) x)) (λ t u a. refl) (λ t u d n. refl) (λ t u d n. refl) (λ t u d c n. refl) (λ t u k. refl) (λ t u a d. refl) f ∙ app_here p f

    device_here : (p : Placed) (f : SceneLine) → option_map early_agent (device_agent bare names (unplaced p) f) ≡ option_map early_agent (device_agent s names p f)
    unfolding device_agent
    device_here p (line.Device n working) = ap (λ ps. Some (agent (name_number names n) ps)) (device_posts_alike p.at)
    device_here p _ = refl

    pub device_agent_alike : (p : Placed) (f : SceneLine) → option_map early_agent (device_agent bare names (unplaced p) (untimed f)) ≡ option_map early_agent (device_agent s names p f)
    unfolding device_agent
    device_agent_alike p f =
        by_form (λ x. option_map early_agent (device_agent bare names (unplaced p) x)) (λ t u a. refl) (λ t u d n. refl) (λ t u d n. refl) (λ t u d c n. refl) (λ t u k. refl) (λ t u a d. refl) f ∙ device_here p f
