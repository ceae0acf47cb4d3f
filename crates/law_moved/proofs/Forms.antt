-- What the words of blocks and refusals say of a form they say of the form without its tick.
use Rattle.std.proofs.Common.{ℕ, suc, zero, ◌≡◌, false, cond, not, Some, refl, ap}
use Rattle.wdf_base.specs.declared.rank.Owner.{Owner}
use Rattle.wdf_base.specs.declared.rank.Owner.TheVariants as owner
use Rattle.wdf_base.specs.Same.{same_option, same_kind}
use Rattle.wdf_scene.specs.declared.line.SceneLine.{SceneLine}
use Rattle.wdf_scene.specs.declared.line.SceneLine.TheVariants as line
use Rattle.wdf_scene.specs.Naming.{declared_name}
use Rattle.wdf_blocks.specs.declared.attribute.Attribute.{Attribute}
use Rattle.wdf_blocks.specs.declared.attribute.Attribute.TheVariants as attribute
use Rattle.wdf_blocks.specs.declared.placed.Counts.{Counts}
use Rattle.wdf_blocks.specs.declared.placed.Stand.{Stand}
use Rattle.wdf_blocks.specs.Attribute.{attribute_of, gives, gives_callback, gives_form, is_device_wide}
use Rattle.wdf_blocks.specs.Blocks.{counts_for, depth_after, ends_block, level_in, scope_in}
use Rattle.wdf_blocks.specs.Forms.{assigned_name, block_kind, is_app, is_class, is_device, is_driver, is_end, is_object, is_post, is_register, is_statement, nodes_end, opens}
use Rattle.wdf_blocks.specs.Placed.{counted, opened_by}
use Rattle.wdf_refusals.specs.Limits.{over_cpus, over_depth, over_level, over_limit, over_parallel, over_ticks}
use Rattle.wdf_refusals.specs.Rows.{has_callbacks, is_class_or_device, is_deferred_block, is_timer_block, is_working_block}
use Rattle.law_moved.proofs.Untimed.{by_form, ticks_alike, untimed}

-- ---- forms

pub is_end_alike : (form : SceneLine) → is_end (untimed form) ≡ is_end form
unfolding is_end
is_end_alike form = by_form is_end (λ t u a. refl) (λ t u d n. refl) (λ t u d n. refl) (λ t u d c n. refl) (λ t u k. refl) (λ t u a d. refl) form

pub is_driver_alike : (form : SceneLine) → is_driver (untimed form) ≡ is_driver form
unfolding is_driver
is_driver_alike form = by_form is_driver (λ t u a. refl) (λ t u d n. refl) (λ t u d n. refl) (λ t u d c n. refl) (λ t u k. refl) (λ t u a d. refl) form

pub is_device_alike : (form : SceneLine) → is_device (untimed form) ≡ is_device form
unfolding is_device
is_device_alike form = by_form is_device (λ t u a. refl) (λ t u d n. refl) (λ t u d n. refl) (λ t u d c n. refl) (λ t u k. refl) (λ t u a d. refl) form

pub is_app_alike : (form : SceneLine) → is_app (untimed form) ≡ is_app form
unfolding is_app
is_app_alike form = by_form is_app (λ t u a. refl) (λ t u d n. refl) (λ t u d n. refl) (λ t u d c n. refl) (λ t u k. refl) (λ t u a d. refl) form

pub is_register_alike : (form : SceneLine) → is_register (untimed form) ≡ is_register form
unfolding is_register
is_register_alike form = by_form is_register (λ t u a. refl) (λ t u d n. refl) (λ t u d n. refl) (λ t u d c n. refl) (λ t u k. refl) (λ t u a d. refl) form

pub is_class_alike : (form : SceneLine) → is_class (untimed form) ≡ is_class form
unfolding is_class
is_class_alike form = by_form is_class (λ t u a. refl) (λ t u d n. refl) (λ t u d n. refl) (λ t u d c n. refl) (λ t u k. refl) (λ t u a d. refl) form

pub is_statement_alike : (form : SceneLine) → is_statement (untimed form) ≡ is_statement form
unfolding is_statement
is_statement_alike form = by_form is_statement (λ t u a. refl) (λ t u d n. refl) (λ t u d n. refl) (λ t u d c n. refl) (λ t u k. refl) (λ t u a d. refl) form

pub is_post_alike : (form : SceneLine) → is_post (untimed form) ≡ is_post form
unfolding is_post
is_post_alike form = by_form is_post (λ t u a. refl) (λ t u d n. refl) (λ t u d n. refl) (λ t u d c n. refl) (λ t u k. refl) (λ t u a d. refl) form

pub assigned_name_alike : (form : SceneLine) → assigned_name (untimed form) ≡ assigned_name form
unfolding assigned_name
assigned_name_alike form = by_form assigned_name (λ t u a. refl) (λ t u d n. refl) (λ t u d n. refl) (λ t u d c n. refl) (λ t u k. refl) (λ t u a d. refl) form

pub block_kind_alike : (form : SceneLine) → block_kind (untimed form) ≡ block_kind form
unfolding block_kind
block_kind_alike form = by_form block_kind (λ t u a. refl) (λ t u d n. refl) (λ t u d n. refl) (λ t u d c n. refl) (λ t u k. refl) (λ t u a d. refl) form

pub nodes_alike : (n : ℕ) (form : SceneLine) → nodes_end n (untimed form) ≡ nodes_end n form
unfolding nodes_end
nodes_alike n form = by_form (nodes_end n) (λ t u a. refl) (λ t u d n. refl) (λ t u d n. refl) (λ t u d c n. refl) (λ t u k. refl) (λ t u a d. refl) form

pub declared_alike : (form : SceneLine) → declared_name (untimed form) ≡ declared_name form
unfolding declared_name
declared_alike form = by_form declared_name (λ t u a. refl) (λ t u d n. refl) (λ t u d n. refl) (λ t u d c n. refl) (λ t u k. refl) (λ t u a d. refl) form

pub attribute_alike : (form : SceneLine) → attribute_of (untimed form) ≡ attribute_of form
unfolding attribute_of
attribute_alike form = by_form attribute_of (λ t u a. refl) (λ t u d n. refl) (λ t u d n. refl) (λ t u d c n. refl) (λ t u k. refl) (λ t u a d. refl) form

-- ---- blocks

pub gives_alike : (a : Attribute) (form : SceneLine) → gives a (untimed form) ≡ gives a form
unfolding gives gives_form gives_callback
gives_alike attribute.Scope form = by_form (gives attribute.Scope) (λ t u a. refl) (λ t u d n. refl) (λ t u d n. refl) (λ t u d c n. refl) (λ t u k. refl) (λ t u a d. refl) form
gives_alike attribute.Level form = by_form (gives attribute.Level) (λ t u a. refl) (λ t u d n. refl) (λ t u d n. refl) (λ t u d c n. refl) (λ t u k. refl) (λ t u a d. refl) form
gives_alike attribute.Serialize form = by_form (gives attribute.Serialize) (λ t u a. refl) (λ t u d n. refl) (λ t u d n. refl) (λ t u d c n. refl) (λ t u k. refl) (λ t u a d. refl) form
gives_alike attribute.Period form = by_form (gives attribute.Period) (λ t u a. refl) (λ t u d n. refl) (λ t u d n. refl) (λ t u d c n. refl) (λ t u k. refl) (λ t u a d. refl) form
gives_alike attribute.PowerOff form = by_form (gives attribute.PowerOff) (λ t u a. refl) (λ t u d n. refl) (λ t u d n. refl) (λ t u d c n. refl) (λ t u k. refl) (λ t u a d. refl) form
gives_alike attribute.Zero form = by_form (gives attribute.Zero) (λ t u a. refl) (λ t u d n. refl) (λ t u d n. refl) (λ t u d c n. refl) (λ t u k. refl) (λ t u a d. refl) form
gives_alike attribute.Default form = by_form (gives attribute.Default) (λ t u a. refl) (λ t u d n. refl) (λ t u d n. refl) (λ t u d c n. refl) (λ t u k. refl) (λ t u a d. refl) form
gives_alike (attribute.For own) form = by_form (gives (attribute.For own)) (λ t u a. refl) (λ t u d n. refl) (λ t u d n. refl) (λ t u d c n. refl) (λ t u k. refl) (λ t u a d. refl) form
gives_alike (attribute.On own) form = by_form (gives (attribute.On own)) (λ t u a. refl) (λ t u d n. refl) (λ t u d n. refl) (λ t u d c n. refl) (λ t u k. refl) (λ t u a d. refl) form

pub depth_alike : (depth : ℕ) (form : SceneLine) → depth_after depth (untimed form) ≡ depth_after depth form
unfolding opens is_end
depth_alike depth form = by_form (depth_after depth) (λ t u a. refl) (λ t u d n. refl) (λ t u d n. refl) (λ t u d c n. refl) (λ t u k. refl) (λ t u a d. refl) form

pub counts_alike : (a : Attribute) (depth : ℕ) (form : SceneLine) → counts_for a depth (untimed form) ≡ counts_for a depth form
counts_alike a zero form = gives_alike a form
counts_alike a (suc depth) form = ap (λ b. cond (is_device_wide a) b false) (gives_alike a form)

pub ends_alike : (depth : ℕ) (form : SceneLine) → ends_block depth (untimed form) ≡ ends_block depth form
ends_alike zero form = is_end_alike form
ends_alike (suc depth) form = refl

pub level_in_alike : (form : SceneLine) → level_in (untimed form) ≡ level_in form
unfolding level_in
level_in_alike form = by_form level_in (λ t u a. refl) (λ t u d n. refl) (λ t u d n. refl) (λ t u d c n. refl) (λ t u k. refl) (λ t u a d. refl) form

pub scope_in_alike : (form : SceneLine) → scope_in (untimed form) ≡ scope_in form
unfolding scope_in
scope_in_alike form = by_form scope_in (λ t u a. refl) (λ t u d n. refl) (λ t u d n. refl) (λ t u d c n. refl) (λ t u k. refl) (λ t u a d. refl) form

-- ---- where lines are

pub opened_alike : (o : Stand) (k : ℕ) (form : SceneLine) → opened_by o k (untimed form) ≡ opened_by o k form
unfolding opened_by
opened_alike o k form = by_form (opened_by o k) (λ t u a. refl) (λ t u d n. refl) (λ t u d n. refl) (λ t u d c n. refl) (λ t u k. refl) (λ t u a d. refl) form

pub counted_alike : (c : Counts) (form : SceneLine) (picks : ℕ) → counted c (untimed form) picks ≡ counted c form picks
unfolding counted nodes_end is_device is_object is_app is_register is_class is_statement is_post
counted_alike c form picks = by_form (λ f. counted c f picks) (λ t u a. refl) (λ t u d n. refl) (λ t u d n. refl) (λ t u d c n. refl) (λ t u k. refl) (λ t u a d. refl) form

-- ---- limits

pub over_cpus_alike : (form : SceneLine) → over_cpus (untimed form) ≡ over_cpus form
unfolding over_cpus
over_cpus_alike form = by_form over_cpus (λ t u a. refl) (λ t u d n. refl) (λ t u d n. refl) (λ t u d c n. refl) (λ t u k. refl) (λ t u a d. refl) form

pub over_limit_alike : (form : SceneLine) → over_limit (untimed form) ≡ over_limit form
unfolding over_limit
over_limit_alike form = by_form over_limit (λ t u a. refl) (λ t u d n. refl) (λ t u d n. refl) (λ t u d c n. refl) (λ t u k. refl) (λ t u a d. refl) form

pub over_level_alike : (form : SceneLine) → over_level (untimed form) ≡ over_level form
unfolding over_level
over_level_alike form = by_form over_level (λ t u a. refl) (λ t u d n. refl) (λ t u d n. refl) (λ t u d c n. refl) (λ t u k. refl) (λ t u a d. refl) form

pub over_parallel_alike : (form : SceneLine) → over_parallel (untimed form) ≡ over_parallel form
unfolding over_parallel
over_parallel_alike form = by_form over_parallel (λ t u a. refl) (λ t u d n. refl) (λ t u d n. refl) (λ t u d c n. refl) (λ t u k. refl) (λ t u a d. refl) form

pub over_depth_alike : (form : SceneLine) → over_depth (untimed form) ≡ over_depth form
unfolding over_depth
over_depth_alike form = by_form over_depth (λ t u a. refl) (λ t u d n. refl) (λ t u d n. refl) (λ t u d c n. refl) (λ t u k. refl) (λ t u a d. refl) form

pub over_ticks_alike : (form : SceneLine) → over_ticks (untimed form) ≡ over_ticks form
unfolding over_ticks
over_ticks_alike (line.At t action) = ap not (ticks_alike t)
over_ticks_alike (line.AtRead t d n) = ap not (ticks_alike t)
over_ticks_alike (line.AtWrite t d n) = ap not (ticks_alike t)
over_ticks_alike (line.AtControl t d code n) = ap not (ticks_alike t)
over_ticks_alike (line.AtCancel t k) = ap not (ticks_alike t)
over_ticks_alike (line.AtAsk t ask d) = ap not (ticks_alike t)
over_ticks_alike form = refl

-- ---- callbacks

pub is_class_or_device_alike : (form : SceneLine) → is_class_or_device (untimed form) ≡ is_class_or_device form
unfolding is_class_or_device
is_class_or_device_alike form = by_form is_class_or_device (λ t u a. refl) (λ t u d n. refl) (λ t u d n. refl) (λ t u d c n. refl) (λ t u k. refl) (λ t u a d. refl) form

pub is_deferred_block_alike : (form : SceneLine) → is_deferred_block (untimed form) ≡ is_deferred_block form
unfolding is_deferred_block
is_deferred_block_alike form = by_form is_deferred_block (λ t u a. refl) (λ t u d n. refl) (λ t u d n. refl) (λ t u d c n. refl) (λ t u k. refl) (λ t u a d. refl) form

pub is_timer_block_alike : (form : SceneLine) → is_timer_block (untimed form) ≡ is_timer_block form
unfolding is_timer_block
is_timer_block_alike form = by_form is_timer_block (λ t u a. refl) (λ t u d n. refl) (λ t u d n. refl) (λ t u d c n. refl) (λ t u k. refl) (λ t u a d. refl) form

pub is_working_block_alike : (form : SceneLine) → is_working_block (untimed form) ≡ is_working_block form
unfolding is_working_block
is_working_block_alike form = by_form is_working_block (λ t u a. refl) (λ t u d n. refl) (λ t u d n. refl) (λ t u d c n. refl) (λ t u k. refl) (λ t u a d. refl) form

pub callbacks_alike : (o : Owner) (form : SceneLine) → has_callbacks o (untimed form) ≡ has_callbacks o form
callbacks_alike (owner.Of k) form = ap (λ b. same_option same_kind b (Some k)) (block_kind_alike form)
callbacks_alike owner.ClassOrDevice form = is_class_or_device_alike form
