-- The block in which a callback is declared, and what the plan has as its owner.
use Rattle.std.proofs.Common.{◌≡◌, ℕ, Bool, true, false, List, [], ◌∷◌, map, find, slice_get, Option, Some, None, refl, ap, sym, ◌∙◌}
use denote.Enum.Bare.{true_same}
use Rattle.wdf_base.specs.declared.call.Callback.{Callback}
use Rattle.wdf_base.specs.declared.declared.Declared.{Declared}
use Rattle.wdf_base.specs.declared.declared.Declared.TheVariants as declared
use Rattle.wdf_base.specs.contracts.object.Kind as kind
use Rattle.wdf_base.specs.Kinds.{plain_kind, deferred_kind}
use Rattle.wdf_scene.specs.declared.block.Block.{Block}
use Rattle.wdf_scene.specs.declared.block.Block.TheVariants as block
use Rattle.wdf_scene.specs.declared.line.SceneLine.{SceneLine}
use Rattle.wdf_scene.specs.declared.line.SceneLine.TheVariants as line
use Rattle.wdf_scene.specs.declared.scene.Scene.{Scene}
use Rattle.wdf_scene.specs.Blocks.{innermost, in_owner, in_device, may_stand, opened}
use Rattle.wdf_scene.specs.Written.{IsScene}
use Rattle.wdf_blocks.specs.declared.declaration.Declaration.{Declaration}
use Rattle.wdf_blocks.specs.declared.declaration.Thing.TheVariants as thing
use Rattle.wdf_blocks.specs.declared.declaration.Wanted.TheVariants as wanted
use Rattle.wdf_blocks.specs.declared.placed.Placed.{Placed}
use Rattle.wdf_blocks.specs.declared.placed.Stand.{Stand}
use Rattle.wdf_blocks.specs.Blocks.{form_at}
use Rattle.wdf_blocks.specs.Declarations.{declarations, declaration, declared_by, found}
use Rattle.wdf_refusals.specs.First.{first_refusal}
use Rattle.wdf_refusals.specs.Numbers.{number_of}
use Rattle.wdf_plan.specs.Parts.{object_of}
use Rattle.wdf_blocks.specs.Placed.{placed}
use Rattle.wdf_plan.specs.Scripts.{block_owner, owner_of}
use Rattle.wdf_plan.proofs.Devices.{same_device, form_there}
use Rattle.wdf_refusals.proofs.Every.{every_at}
use Rattle.wdf_plan.proofs.OwnNames.{IsOwn, lines_own}
use Rattle.wdf_plan.proofs.Stacking.{passed}
use Rattle.wdf_plan.proofs.Stacks.{Opener, AreFitting, AreBefore, AreOpened, IsStacked, block_of, pushed, stand_of, begun, opens_in, fitting, device_open, quiet, owner_quiet}

-- ---- the block

-- blocks of what belongs to a device
abbrev pub is_of_device : Option Block → Bool
is_of_device (Some block.Interrupt) = true
is_of_device (Some block.Queue) = true
is_of_device (Some block.Target) = true
is_of_device _ = false

-- two lines that are in one device
pub record IsShared (p q : Placed) : Type 0 where
  pub device : ℕ
  pub one : p.stand.device ≡ Some device
  pub other : q.stand.device ≡ Some device

-- a line that is in a block with callbacks, and in none of these
pub record IsInBlock (scene : Scene) (p : Placed) : Type 0 where
  pub line : ℕ
  pub opener : Placed
  pub there : slice_get (placed scene) line ≡ Some opener
  pub at : opener.at ≡ line
  pub block : p.stand.block ≡ Some line
  pub no_callback : p.stand.callback ≡ None
  pub has : in_owner (opened opener.form) ≡ true
  pub inside : is_of_device (opened opener.form) ≡ true → IsShared p opener

as_opened : (b : Block) → in_owner (Some b) ≡ true → begun b ≡ b
as_opened block.Else h = absurd (let z : ⊥ = cc in z)
as_opened _ h = refl

in_block_of : (b : Block) (k : ℕ) (o : Stand) → in_owner (Some b) ≡ true → (pushed b k o).block ≡ Some k
in_block_of block.Class k o h = refl
in_block_of block.Device k o h = refl
in_block_of block.Interrupt k o h = refl
in_block_of block.Queue k o h = refl
in_block_of block.Target k o h = refl
in_block_of _ k o h = absurd (let z : ⊥ = cc in z)

opened_inside : (b : Block) (o : Option Block) → is_of_device (Some b) ≡ true → opens_in b o ≡ true → in_device o ≡ true
opened_inside block.Interrupt o h e = e
opened_inside block.Queue o h e = e
opened_inside block.Target o h e = e
opened_inside _ o h e = absurd (let z : ⊥ = cc in z)

same_stand : (b : Block) (k : ℕ) (o : Stand) → is_of_device (Some b) ≡ true → (pushed b k o).device ≡ o.device
same_stand block.Interrupt k o h = refl
same_stand block.Queue k o h = refl
same_stand block.Target k o h = refl
same_stand _ k o h = absurd (let z : ⊥ = cc in z)

shared : (p q : Placed) (x : Opener) (xs : List Opener) → p.stand ≡ stand_of (x ∷ xs) → q.stand ≡ stand_of xs → AreFitting xs → opens_in x.block (innermost (map block_of xs)) ≡ true → is_of_device (Some x.block) ≡ true → IsShared p q
shared p q x xs ps qs f fits h =
    let d = device_open xs f (opened_inside x.block (innermost (map block_of xs)) h fits) in
    let is : (stand_of xs).device ≡ Some d.line = ap (λ ys. (stand_of ys).device) d.is in
    record {
      device = d.line;
      one = ap (λ (o : Stand). o.device) ps ∙ (same_stand x.block x.line (stand_of xs) h ∙ is);
      other = ap (λ (o : Stand). o.device) qs ∙ is;
    }

by_stack : (scene : Scene) (p : Placed) (stack : List Opener) → p.stand ≡ stand_of stack → AreBefore p.at stack → AreOpened (placed scene) stack → in_owner (innermost (map block_of stack)) ≡ true → IsInBlock scene p
by_stack scene p [] s b o h = absurd (let z : ⊥ = cc in z)
by_stack scene p (x ∷ xs) s b o h =
    let f = fitting (placed scene) p.at (x ∷ xs) b o in
    let opens : opened o.0.placed.form ≡ Some x.block = o.0.opens ∙ ap (λ c. Some c) (as_opened x.block h) in
    record {
      line = x.line;
      opener = o.0.placed;
      there = o.0.there;
      at = o.0.at;
      block = ap (λ (t : Stand). t.block) s ∙ in_block_of x.block x.line (stand_of xs) h;
      no_callback = ap (λ (t : Stand). t.callback) s ∙ (quiet (x ∷ xs) f (owner_quiet (Some x.block) h)).no_callback;
      has = ap in_owner opens ∙ h;
      inside = λ e. shared p o.0.placed x xs s o.0.stand f.2 o.0.fits (sym (ap is_of_device opens) ∙ e);
    }

in_block : (scene : Scene) (p : Placed) (stack : List Opener) → IsStacked (placed scene) stack p → (c : Callback) → p.form ≡ line.On c → IsInBlock scene p
in_block scene p stack s c e =
    let may : may_stand s.position (line.On c) ≡ true = rw e at s.may in
    by_stack scene p stack s.stand s.before s.open' (sym (ap (λ bs. in_owner (innermost bs)) s.blocks) ∙ may)

-- ---- the owner

-- what the plan has of the line that opened the block: a class by its number, or the object
abbrev pub owner_at : Scene → List Declaration → Placed → SceneLine → Option Declared
owner_at scene names q (line.Class n k) = Some (declared.OfClass q.counts.classes)
owner_at scene names q (line.DeferredClass n k parent) = Some (declared.OfClass q.counts.classes)
owner_at scene names q form = object_of scene names q q.at form

-- an owner is there
record HasOwner (o : Option Declared) : Type 0 where
  owner : Declared
  is : o ≡ Some owner

has_owner : (scene : Scene) (names : List Declaration) (q : Placed) (form : SceneLine) → in_owner (opened form) ≡ true → HasOwner (owner_at scene names q form)
unfolding object_of
has_owner scene names q (line.Class n k) h = record { owner = _; is = refl }
has_owner scene names q (line.DeferredClass n k parent) h = record { owner = _; is = refl }
has_owner scene names q (line.Device n working) h = record { owner = _; is = refl }
has_owner scene names q (line.Queue n dispatch) h = record { owner = _; is = refl }
has_owner scene names q (line.Interrupt n l) h = record { owner = _; is = refl }
has_owner scene names q (line.Target n delay status depth) h = record { owner = _; is = refl }
has_owner scene names q _ h = absurd (let z : ⊥ = cc in z)

-- a callback's line sees in its block's line what that line declares
same_owner : (scene : Scene) (names : List Declaration) (p q : Placed) (form : SceneLine) → ((d : Declaration) → declared_by q form ≡ Some d → IsOwn names d) → (is_of_device (opened form) ≡ true → (p.stand.device ≡ q.stand.device) × (p.counts.device ≡ q.counts.device)) → in_owner (opened form) ≡ true → block_owner scene names p q.at form ≡ owner_at scene names q form
unfolding block_owner object_of declared_by number_of found
same_owner scene names p q (line.Class n k) own in' h =
    let is : find _ names ≡ Some _ = own (declaration q n (thing.Class (plain_kind k)) q.counts.classes) refl (wanted.ClassOf (plain_kind k)) (true_same kind.the_type (plain_kind k) (plain_kind k) refl) in
    rw is refl
same_owner scene names p q (line.DeferredClass n k parent) own in' h =
    let is : find _ names ≡ Some _ = own (declaration q n (thing.Class (deferred_kind k)) q.counts.classes) refl (wanted.ClassOf (deferred_kind k)) (true_same kind.the_type (deferred_kind k) (deferred_kind k) refl) in
    rw is refl
same_owner scene names p q (line.Device n working) own in' h = refl
same_owner scene names p q (line.Queue n dispatch) own in' h =
    let both = in' refl in
    rw (both.0, both.1) refl
same_owner scene names p q (line.Interrupt n l) own in' h = let both = in' refl in rw both.1 refl
same_owner scene names p q (line.Target n delay status depth) own in' h =
    let both = in' refl in
    rw both.1 refl
same_owner scene names p q _ own in' h = absurd (let z : ⊥ = cc in z)

-- the owner of a callback, as the block's own line says it
pub record IsOwner (scene : Scene) (p : Placed) : Type 0 where
  pub home : IsInBlock scene p
  pub form : form_at scene home.line ≡ Some home.opener.form
  pub owner : Declared
  pub owned : owner_of scene (declarations scene) p p.stand.block ≡ Some owner
  pub own : owner_at scene (declarations scene) home.opener home.opener.form ≡ Some owner

both_devices : (scene : Scene) (k : ℕ) (p : Placed) (b : IsInBlock scene p) → slice_get (placed scene) k ≡ Some p → is_of_device (opened b.opener.form) ≡ true → (p.stand.device ≡ b.opener.stand.device) × (p.counts.device ≡ b.opener.counts.device)
both_devices scene k p b there e =
    let s = b.inside e in
    (s.one ∙ sym s.other, same_device scene k b.line s.device p b.opener there b.there s.one s.other)

owner_step : (scene : Scene) (names : List Declaration) (p : Placed) (o : Option ℕ) (k : ℕ) (form : SceneLine) → o ≡ Some k → form_at scene k ≡ Some form → owner_of scene names p o ≡ block_owner scene names p k form
unfolding owner_of
owner_step scene names p o k form e f = rw (e, f) refl

owner_in_block : (scene : Scene) → IsScene scene → first_refusal scene ≡ None → (k : ℕ) (p : Placed) → slice_get (placed scene) k ≡ Some p → IsInBlock scene p → IsOwner scene p
owner_in_block scene s none k p there b =
    let names = declarations scene in
    let own = every_at _ (placed scene) (lines_own scene none) b.line b.opener b.there in
    let o = has_owner scene names b.opener b.opener.form b.has in
    let form = form_there scene b.line b.opener b.there in
    let here : block_owner scene names p b.line b.opener.form ≡ block_owner scene names p b.opener.at b.opener.form = ap (λ i. block_owner scene names p i b.opener.form) (sym b.at) in
    let same : block_owner scene names p b.opener.at b.opener.form ≡ owner_at scene names b.opener b.opener.form = same_owner scene names p b.opener b.opener.form own (both_devices scene k p b there) b.has in
    record {
      home = b;
      form = form;
      owner = o.owner;
      owned = owner_step scene names p p.stand.block b.line b.opener.form b.block form ∙ (here ∙ (same ∙ o.is));
      own = o.is;
    }

-- a line that begins a callback
pub owner_on : (scene : Scene) → IsScene scene → first_refusal scene ≡ None → (k : ℕ) (p : Placed) → slice_get (placed scene) k ≡ Some p → (c : Callback) → p.form ≡ line.On c → IsOwner scene p
owner_on scene s none k p there c e =
    let h = passed scene s k p there in
    owner_in_block scene s none k p there (in_block scene p h.stack h.stacked c e)
