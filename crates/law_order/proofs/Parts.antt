-- What the lists of a plan have of each line is the same where the lines are at other places.
use Rattle.std.proofs.Common.{◌≡◌, ℕ, ◌==◌, Bool, true, false, cond, List, Option, Some, None, option_map, refl, ap, ◌∙◌}
use Rattle.std.specs.Prelude.{option_and_then}
use Rattle.std.specs.Option.{unwrap_or}
use Rattle.std.specs.List.{filter_map}
use Rattle.wdf_base.specs.Same.{same_option}
use Rattle.wdf_base.specs.declared.declared.Declared.TheVariants as declared
use Rattle.wdf_base.specs.declared.declared.DispatchKind.{DispatchKind}
use Rattle.wdf_base.specs.declared.declared.PostLine.{PostLine}
use Rattle.wdf_base.specs.declared.object.RequestForm.TheVariants as form
use Rattle.wdf_base.specs.declared.value.Status.{Status}
use Rattle.wdf_scene.specs.declared.line.InterruptLevel.{InterruptLevel}
use Rattle.wdf_scene.specs.declared.line.SceneLine.{SceneLine}
use Rattle.wdf_scene.specs.declared.line.SceneLine.TheVariants as line
use Rattle.wdf_scene.specs.declared.scene.Scene.{Scene}
use Rattle.wdf_blocks.specs.declared.attribute.Attribute.TheVariants as attribute
use Rattle.wdf_blocks.specs.declared.declaration.Declaration.{Declaration}
use Rattle.wdf_blocks.specs.declared.declaration.Wanted.TheVariants as wanted
use Rattle.wdf_blocks.specs.declared.placed.Placed.{Placed}
use Rattle.wdf_blocks.specs.Blocks.{form_at, given, ticks_in}
use Rattle.wdf_blocks.specs.Placed.{placed}
use Rattle.wdf_refusals.specs.Numbers.{name_number}
use Rattle.wdf_plan.specs.Parts.{agent, app_agent, app_post, app_post_in, class_on, device_agent, device_info, device_post, device_post_in, interrupt_info, object_of, object_on, parent_order, period_of, pnp_post, queue_info, register_on, serves, stands_in, target_agent, target_info, when_on}
use Rattle.law_order.proofs.Inserted.{IsInserted, gathered}
use Rattle.law_order.proofs.Moves.{block_alike, effective_alike, effective_scope_alike, has_given_alike, moved_names, moved_placed}
use Rattle.law_order.proofs.Numbers.{act_alike, handle_alike, name_alike, number_alike}
use Rattle.law_order.proofs.Refusals.{in_order, is_of_order}

module _ (to : ℕ → ℕ) (same : (a b : Option ℕ) → same_option ◌==◌ (option_map to a) (option_map to b) ≡ same_option ◌==◌ a b) (names : List Declaration) where
  interrupt_alike : (order : ℕ) (n : List ℕ) (l : InterruptLevel) → interrupt_info (moved_names to names) order n l ≡ interrupt_info names order n l
  unfolding interrupt_info
  interrupt_alike order n l = rw (name_alike to same names n) refl

  target_alike : (order : ℕ) (n : List ℕ) (delay : ℕ) (status : Status) (depth : ℕ) → target_info (moved_names to names) order n delay status depth ≡ target_info names order n delay status depth
  unfolding target_info
  target_alike order n delay status depth = rw (name_alike to same names n) refl

  parent_alike : (parent : Option (List ℕ)) → parent_order (moved_names to names) parent ≡ parent_order names parent
  parent_alike None = refl
  parent_alike (Some n) = number_alike to same names n wanted.Parent

  pub register_alike : (n : ℕ) (p : Placed) (f : SceneLine) → register_on (moved_names to names) (moved_placed to n p) f ≡ register_on names p f
  unfolding register_on
  register_alike n p (line.Register x v) = rw (name_alike to same names x) refl
  register_alike n p _ = refl

  pub when_alike : (number : ℕ) (device : Option ℕ) (f : SceneLine) → when_on (moved_names to names) number (option_map to device) f ≡ when_on names number device f
  unfolding when_on
  when_alike number device (line.When access r a after) = rw (number_alike to same names r (wanted.RegisterOf device), act_alike to same names device a) refl
  when_alike number device _ = refl

  pub pnp_alike : (number : ℕ) (f : SceneLine) → pnp_post (moved_names to names) number f ≡ pnp_post names number f
  unfolding pnp_post
  pnp_alike number (line.AtAsk tick ask d) = rw (handle_alike to same names d wanted.Device) refl
  pnp_alike number _ = refl

  app_post_alike : (number : ℕ) (f : SceneLine) → app_post (moved_names to names) number f ≡ app_post names number f
  unfolding app_post
  app_post_alike number (line.AtRead tick d n) = rw (handle_alike to same names d wanted.Device) refl
  app_post_alike number (line.AtWrite tick d n) = rw (handle_alike to same names d wanted.Device) refl
  app_post_alike number (line.AtControl tick d code n) = rw (handle_alike to same names d wanted.Device) refl
  app_post_alike number (line.AtCancel tick k) = refl
  app_post_alike number _ = refl

  device_post_alike : (number : ℕ) (device : Option ℕ) (f : SceneLine) → device_post (moved_names to names) number (option_map to device) f ≡ device_post names number device f
  unfolding device_post
  device_post_alike number device (line.At tick a) = rw (act_alike to same names device a) refl
  device_post_alike number device _ = refl

  stands_alike : (n b : ℕ) (p : Placed) → stands_in (to b) (moved_placed to n p) ≡ stands_in b p
  stands_alike n b p = same p.stand.block (Some b)

  app_in_alike : (n b : ℕ) (p : Placed) → app_post_in (moved_names to names) (to b) (moved_placed to n p) ≡ app_post_in names b p
  app_in_alike n b p =
      ap (λ t. cond t (app_post (moved_names to names) p.number p.form) None) (stands_alike n b p) ∙ ap (λ o. cond (stands_in b p) o None) (app_post_alike p.number p.form)

  device_in_alike : (n b : ℕ) (p : Placed) → device_post_in (moved_names to names) (to b) (moved_placed to n p) ≡ device_post_in names b p
  device_in_alike n b p =
      ap (λ t. cond t (device_post (moved_names to names) p.number (option_map to p.stand.device) p.form) None) (stands_alike n b p)
      ∙ ap (λ o. cond (stands_in b p) o None) (device_post_alike p.number p.stand.device p.form)

  pub target_agent_alike : (f : SceneLine) → target_agent (moved_names to names) f ≡ target_agent names f
  unfolding target_agent
  target_agent_alike (line.Target n delay status depth) = rw (name_alike to same names n) refl
  target_agent_alike _ = refl

-- ---- an `order` block has none of these

no_post : (b : Bool) (o : Option PostLine) → o ≡ None → cond b o None ≡ None
no_post true o e = e
no_post false o e = refl

module _ (names : List Declaration) where
  pub no_register : (p : Placed) (f : SceneLine) → is_of_order f ≡ true → register_on names p f ≡ None
  unfolding register_on
  no_register p = in_order (λ f. register_on names p f ≡ None) refl refl refl

  pub no_when : (number : ℕ) (device : Option ℕ) (f : SceneLine) → is_of_order f ≡ true → when_on names number device f ≡ None
  unfolding when_on
  no_when number device = in_order (λ f. when_on names number device f ≡ None) refl refl refl

  pub no_pnp : (number : ℕ) (f : SceneLine) → is_of_order f ≡ true → pnp_post names number f ≡ None
  unfolding pnp_post
  no_pnp number = in_order (λ f. pnp_post names number f ≡ None) refl refl refl

  no_app_post : (number : ℕ) (f : SceneLine) → is_of_order f ≡ true → app_post names number f ≡ None
  unfolding app_post
  no_app_post number = in_order (λ f. app_post names number f ≡ None) refl refl refl

  no_device_post : (number : ℕ) (device : Option ℕ) (f : SceneLine) → is_of_order f ≡ true → device_post names number device f ≡ None
  unfolding device_post
  no_device_post number device = in_order (λ f. device_post names number device f ≡ None) refl refl refl

  pub no_target : (f : SceneLine) → is_of_order f ≡ true → target_agent names f ≡ None
  unfolding target_agent
  no_target = in_order (λ f. target_agent names f ≡ None) refl refl refl

  module _ (s : Scene) where
    pub no_object : (p : Placed) (b : ℕ) (f : SceneLine) → is_of_order f ≡ true → object_of s names p b f ≡ None
    unfolding object_of
    no_object p b = in_order (λ f. object_of s names p b f ≡ None) refl refl refl

    pub no_class : (p : Placed) (f : SceneLine) → is_of_order f ≡ true → class_on s names p f ≡ None
    unfolding class_on
    no_class p = in_order (λ f. class_on s names p f ≡ None) refl refl refl

    pub no_app : (p : Placed) (f : SceneLine) → is_of_order f ≡ true → app_agent s names p f ≡ None
    unfolding app_agent
    no_app p = in_order (λ f. app_agent s names p f ≡ None) refl refl refl

    pub no_device : (p : Placed) (f : SceneLine) → is_of_order f ≡ true → device_agent s names p f ≡ None
    unfolding device_agent
    no_device p = in_order (λ f. device_agent s names p f ≡ None) refl refl refl

-- ---- objects, classes and agents

module _ (to : ℕ → ℕ) (one two : Scene) (i : IsInserted to one two) (names : List Declaration) where
  name' : (n : List ℕ) → name_number (moved_names to names) n ≡ name_number names n
  name' = name_alike to i.moved.same names

  device_alike : (b : ℕ) (n : List ℕ) (working : Bool) → device_info two (moved_names to names) (to b) n working ≡ device_info one names b n working
  unfolding device_info
  device_alike b n working = rw (name' n, effective_scope_alike to one two i.moved b None, effective_alike to one two i.moved b None) refl

  serves_alike : (b : ℕ) → serves two (to b) ≡ serves one b
  unfolding serves
  serves_alike b =
      rw (has_given_alike to one two i.moved b attribute.Default, has_given_alike to one two i.moved b (attribute.For form.Read), has_given_alike to one two i.moved b (attribute.For form.Write), has_given_alike to one two i.moved b (attribute.For form.Control)) refl

  queue_alike : (device : Option ℕ) (order b : ℕ) (n : List ℕ) (dispatch : DispatchKind) → queue_info two (moved_names to names) (option_map to device) order (to b) n dispatch ≡ queue_info one names device order b n dispatch
  unfolding queue_info
  queue_alike device order b n dispatch =
      rw (name' n, serves_alike b, has_given_alike to one two i.moved b attribute.PowerOff, has_given_alike to one two i.moved b attribute.Zero, effective_scope_alike to one two i.moved b device, effective_alike to one two i.moved b device) refl

  pub object_alike : (n : ℕ) (p : Placed) (b : ℕ) (f : SceneLine) → object_of two (moved_names to names) (moved_placed to n p) (to b) f ≡ object_of one names p b f
  unfolding object_of
  object_alike n p b (line.Device x working) = ap (λ d. Some (declared.Device d)) (device_alike b x working)
  object_alike n p b (line.Queue x dispatch) = ap (λ d. Some (declared.Queue d)) (queue_alike p.stand.device p.counts.device b x dispatch)
  object_alike n p b (line.Interrupt x l) = ap (λ d. Some (declared.Interrupt d)) (interrupt_alike to i.moved.same names p.counts.device x l)
  object_alike n p b (line.Target x delay status depth) = ap (λ d. Some (declared.Target d)) (target_alike to i.moved.same names p.counts.device x delay status depth)
  object_alike n p b _ = refl

  pub object_on_alike : (n : ℕ) (p : Placed) → object_on two (moved_names to names) (moved_placed to n p) ≡ object_on one names p
  object_on_alike n p = object_alike n p p.at p.form

  period_alike : (b : ℕ) → period_of two (to b) ≡ period_of one b
  unfolding period_of
  period_alike b =
      ap (λ o. unwrap_or (option_and_then ticks_in (option_and_then (form_at two) o)) 0) (i.moved.gives b attribute.Period)
      ∙ ap (λ o. unwrap_or (option_and_then ticks_in o) 0) (block_alike to one two i.moved (given one b attribute.Period))

  pub class_alike : (n : ℕ) (p : Placed) (f : SceneLine) → class_on two (moved_names to names) (moved_placed to n p) f ≡ class_on one names p f
  unfolding class_on
  class_alike n p (line.Class x k) = rw (name' x) refl
  class_alike n p (line.DeferredClass x k parent) = rw (name' x, parent_alike to i.moved.same names parent, has_given_alike to one two i.moved p.at attribute.Serialize, period_alike p.at) refl
  class_alike n p _ = refl

  app_posts_alike : (b : ℕ) → filter_map (app_post_in (moved_names to names) (to b)) (placed two) ≡ filter_map (app_post_in names b) (placed one)
  app_posts_alike b =
      gathered to one two i (app_post_in (moved_names to names) (to b)) (app_post_in names b) (λ n p there. app_in_alike to i.moved.same names n b p)
      (λ p h. no_post (stands_in (to b) p) (app_post (moved_names to names) p.number p.form) (no_app_post (moved_names to names) p.number p.form h))

  device_posts_alike : (b : ℕ) → filter_map (device_post_in (moved_names to names) (to b)) (placed two) ≡ filter_map (device_post_in names b) (placed one)
  device_posts_alike b =
      gathered to one two i (device_post_in (moved_names to names) (to b)) (device_post_in names b) (λ n p there. device_in_alike to i.moved.same names n b p)
      (λ p h. no_post (stands_in (to b) p) (device_post (moved_names to names) p.number p.stand.device p.form) (no_device_post (moved_names to names) p.number p.stand.device p.form h))

  pub app_agent_alike : (n : ℕ) (p : Placed) (f : SceneLine) → app_agent two (moved_names to names) (moved_placed to n p) f ≡ app_agent one names p f
  unfolding app_agent
  app_agent_alike n p (line.App x) =
      ap (λ k. Some (agent k (filter_map (app_post_in (moved_names to names) (to p.at)) (placed two)))) (name' x) ∙ ap (λ ps. Some (agent (name_number names x) ps)) (app_posts_alike p.at)
  app_agent_alike n p _ = refl

  pub device_agent_alike : (n : ℕ) (p : Placed) (f : SceneLine) → device_agent two (moved_names to names) (moved_placed to n p) f ≡ device_agent one names p f
  unfolding device_agent
  device_agent_alike n p (line.Device x working) =
      ap (λ k. Some (agent k (filter_map (device_post_in (moved_names to names) (to p.at)) (placed two)))) (name' x) ∙ ap (λ ps. Some (agent (name_number names x) ps)) (device_posts_alike p.at)
  device_agent_alike n p _ = refl
