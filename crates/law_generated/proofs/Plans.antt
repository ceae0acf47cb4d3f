-- In the generated scene nothing is refused.
use Rattle.std.proofs.Common.{◌≡◌, ℕ, suc, ◌+◌, ◌%◌, ◌<◌, ◌≤◌, Bool, true, false, cond, nat_le, List, [], ◌∷◌, ◌++◌, length, Option, Some, None, refl, ap, ◌∙◌, arith, codes}
use Rattle.std.specs.Prelude.{◌==◌}
use Rattle.std.specs.List.{filter_map}
use Rattle.std.specs.Option.{option_or}
use Rattle.std.proofs.lemmas.Bool.{lt-leb}
use Rattle.rand_core.specs.Stream.{Stream}
use Rattle.rand_core.specs.Steps.{stream_of}
use Rattle.rand_xoshiro.specs.SplitMix64.{splitmix_steps}
use Rattle.wdf_scene.specs.declared.line.SceneLine.TheVariants as line
use Rattle.wdf_scene.specs.declared.scene.Scene.{Scene}
use Rattle.wdf_scene.specs.Naming.{declared_name}
use Rattle.wdf_scene.specs.Written.{Written, Plain, lines_at, scene_of}
use Rattle.wdf_blocks.specs.declared.declaration.Declaration.{Declaration}
use Rattle.wdf_blocks.specs.declared.declaration.Thing.TheVariants as thing
use Rattle.wdf_blocks.specs.declared.placed.Counts.{Counts}
use Rattle.wdf_blocks.specs.declared.placed.Placed.{Placed}
use Rattle.wdf_blocks.specs.declared.placed.Stand.{Stand}
use Rattle.wdf_refusals.specs.declared.refusal.PlanRefusal.{PlanRefusal}
use Rattle.wdf_blocks.specs.Attribute.{gives_form, gives_callback, gives, is_device_wide, attribute_of}
use Rattle.wdf_blocks.specs.Blocks.{given_from, given, has_given, form_at, number_at}
use Rattle.wdf_blocks.specs.Declarations.{declared_by, declared_on, declarations, found, stands, object_count}
use Rattle.wdf_refusals.specs.First.{refused, refused_at, first_some, first_refusal}
use Rattle.wdf_blocks.specs.Forms.{opens, is_end, is_device, is_app, is_register, is_class, is_object, is_statement, is_post, assigned_name, nodes_after, nodes_end, block_kind}
use Rattle.wdf_refusals.specs.Limits.{over_cpus, over_limit, over_objects, over_level, over_parallel, over_depth, over_ticks, exceeds, exceeded}
use Rattle.wdf_blocks.specs.Placed.{opened_by, counted, placed_line, placed_from, placed}
use Rattle.wdf_refusals.specs.Rows.{unknown_class, unknown_argument, unknown_word, unknown_node, nodes_of, unknown_name, reserved_line, first_line, twice_given, twice_named, is_class_or_device, wrong_callback, incompatible_level, no_parent}
use Rattle.wdf_blocks.specs.Variables.{assigned_from, variables, variables_in, variables_at, variable_number}
use Rattle.wdf_gen.specs.Generated.{words, seed_words, length_read, read_form, reads_from, head_lines, numbered, generated}
use Rattle.law_generated.proofs.Texts.{app_then, apps_of, text_nested}

-- ---- the reads are passed

-- in the app that line b begins
abbrev in_app : ℕ → Stand
in_app b = record { block = Some b; device = None; callback = None; nested = 0 }

-- after the devices, so many apps and so many reads
abbrev so_far : ℕ → ℕ → Counts
so_far apps posts = record {
  nodes = 10;
  devices = 2;
  device = 2;
  objects = 4;
  apps = apps;
  registers = 0;
  classes = 0;
  statements = 4;
  posts = posts;
  picks = 0;
}

-- a read at its place
abbrev read_at : ℕ → ℕ → ℕ → ℕ → ℕ → ℕ → ℕ → Placed
read_at b apps at number posts k w =
    placed_line at (in_app b) (so_far apps posts) (record { number = number; form = read_form k w; picks = [] })

-- some lines from a place on, in the app of line b
abbrev stretch : ℕ → ℕ → ℕ → ℕ → ℕ → List Written → List Placed
stretch b apps at number posts ws = placed_from at (in_app b) (so_far apps posts) (lines_at 10 (numbered number ws))

-- what is said of the lines isn't changed by a read in front
abbrev Skips : {X : Type 0} → (List Placed → X) → ℕ → ℕ → Type 0
Skips says b apps = (at number posts k w : ℕ) (ps : List Placed) → posts < 4096 → says (read_at b apps at number posts k w ∷ ps) ≡ says ps

-- nor by some reads
abbrev Passes : {X : Type 0} → (List Placed → X) → ℕ → ℕ → List Written → List Written → Type 0
Passes says b apps reads rest =
    (at number posts at2 number2 posts2 : ℕ) → at2 ≡ at + length reads → number2 ≡ number + length reads → posts2 ≡ posts + length reads → posts2 ≤ 4096
    → says (stretch b apps at number posts (reads ++ rest)) ≡ says (stretch b apps at2 number2 posts2 rest)

none_passed : {X : Type 0} (says : List Placed → X) (b apps : ℕ) (rest : List Written) → Passes says b apps [] rest
none_passed says b apps rest = λ at number posts at2 number2 posts2 e1 e2 e3 small.
    let f1 : at ≡ at2 = omega (arith, e1) in
    let f2 : number ≡ number2 = omega (arith, e2) in
    let f3 : posts ≡ posts2 = omega (arith, e3) in
    ap (λ x. says (stretch b apps x number posts rest)) f1
    ∙ ap (λ x. says (stretch b apps at2 x posts rest)) f2
    ∙ ap (λ x. says (stretch b apps at2 number2 x rest)) f3

one_passed : {X : Type 0} (says : List Placed → X) (b apps k w : ℕ) (reads rest : List Written) (own : Bool) → Skips says b apps → Passes says b apps reads rest → Passes says b apps (cond own (Plain (read_form k w) ∷ []) [] ++ reads) rest
unfolding placed_from opened_by counted is_device is_object is_app is_register is_class is_statement is_post nodes_end
one_passed says b apps k w reads rest false skips passes = passes
one_passed says b apps k w reads rest true skips passes = λ at number posts at2 number2 posts2 e1 e2 e3 small.
    skips at number posts k w (stretch b apps (suc at) (suc number) (posts + 1) (reads ++ rest)) (omega (arith, e3, small))
    ∙ passes (suc at) (suc number) (posts + 1) at2 number2 posts2 (omega (arith, e1)) (omega (arith, e2)) (omega (arith, e3)) small

all_passed : {X : Type 0} (says : List Placed → X) (b apps a : ℕ) (rest : List Written) → Skips says b apps → (k : ℕ) (ws : List ℕ) → Passes says b apps (reads_from a k ws) rest
unfolding reads_from
all_passed says b apps a rest skips k [] = none_passed says b apps rest
all_passed says b apps a rest skips k (w ∷ ws) =
    one_passed says b apps k w (reads_from a (suc k) ws) rest (k % 4 == a) skips (all_passed says b apps a rest skips (suc k) ws)

-- each app has 725 reads
pub record AreEven (ws : List ℕ) : Type 0 where
  pub of0 : length (reads_from 0 0 ws) ≡ 725
  pub of1 : length (reads_from 1 0 ws) ≡ 725
  pub of2 : length (reads_from 2 0 ws) ≡ 725
  pub of3 : length (reads_from 3 0 ws) ≡ 725

words_even : (s : Stream) → AreEven (words 2900 s)
unfolding words reads_from
words_even s = record { of0 = refl; of1 = refl; of2 = refl; of3 = refl }

seed_even : (n : ℕ) → AreEven (seed_words n)
unfolding seed_words
seed_even n = words_even (stream_of splitmix_steps n)

-- the lines from each app's first read on
abbrev after0 : List ℕ → List Placed
after0 ws = stretch 21 1 22 23 0 (reads_from 0 0 ws ++ (Plain line.End ∷ app_then (codes "A1") 1 ws (app_then (codes "A2") 2 ws (app_then (codes "A3") 3 ws []))))

abbrev after1 : List ℕ → List Placed
after1 ws = stretch 748 2 749 750 725 (reads_from 1 0 ws ++ (Plain line.End ∷ app_then (codes "A2") 2 ws (app_then (codes "A3") 3 ws [])))

abbrev after2 : List ℕ → List Placed
after2 ws = stretch 1475 3 1476 1477 1450 (reads_from 2 0 ws ++ (Plain line.End ∷ app_then (codes "A3") 3 ws []))

abbrev after3 : List ℕ → List Placed
after3 ws = stretch 2202 4 2203 2204 2175 (reads_from 3 0 ws ++ (Plain line.End ∷ []))

-- ---- what is declared

abbrev app_declared : List ℕ → ℕ → ℕ → ℕ → Declaration
app_declared name number at order = record {
  name = name;
  number = number;
  at = at;
  device = None;
  thing = thing.App;
  order = order;
}

abbrev app0 : Declaration
app0 = app_declared (codes "A0") 22 21 0

abbrev app1 : Declaration
app1 = app_declared (codes "A1") 749 748 1

abbrev app2 : Declaration
app2 = app_declared (codes "A2") 1476 1475 2

abbrev app3 : Declaration
app3 = app_declared (codes "A3") 2203 2202 3

abbrev all_declared : List Declaration
all_declared =
    record { name = codes "E"; number = 4; at = 3; device = None; thing = thing.Device; order = 0 }
    ∷ record { name = codes "EQ"; number = 5; at = 4; device = Some 3; thing = thing.Queue; order = 1 }
    ∷ record { name = codes "F"; number = 13; at = 12; device = None; thing = thing.Device; order = 2 }
    ∷ record { name = codes "FQ"; number = 14; at = 13; device = Some 12; thing = thing.Queue; order = 3 }
    ∷ app0 ∷ app1 ∷ app2 ∷ app3 ∷ []

abbrev declare : List Placed → List Declaration
declare ps = filter_map declared_on ps

reads_declare : (b apps : ℕ) → Skips declare b apps
unfolding declared_by
reads_declare b apps = λ at number posts k w ps small. refl

declare3 : (ws : List ℕ) → AreEven ws → declare (after3 ws) ≡ []
unfolding placed_from opened_by counted is_device is_object is_app is_register is_class is_statement is_post nodes_end declared_by
declare3 ws even =
    all_passed declare 2202 4 3 (Plain line.End ∷ []) (reads_declare 2202 4) 0 ws 2203 2204 2175 2928 2929 2900 (omega (arith, even.of3)) (omega (arith, even.of3)) (omega (arith, even.of3)) (omega arith)

declare2 : (ws : List ℕ) → AreEven ws → declare (after2 ws) ≡ app3 ∷ []
unfolding placed_from opened_by counted is_device is_object is_app is_register is_class is_statement is_post nodes_end declared_by
declare2 ws even =
    all_passed declare 1475 3 2 (Plain line.End ∷ app_then (codes "A3") 3 ws []) (reads_declare 1475 3) 0 ws 1476 1477 1450 2201 2202 2175 (omega (arith, even.of2)) (omega (arith, even.of2)) (omega (arith, even.of2)) (omega arith)
    ∙ ap (λ (ds : List Declaration). app3 ∷ ds) (declare3 ws even)

declare1 : (ws : List ℕ) → AreEven ws → declare (after1 ws) ≡ app2 ∷ app3 ∷ []
unfolding placed_from opened_by counted is_device is_object is_app is_register is_class is_statement is_post nodes_end declared_by
declare1 ws even =
    all_passed declare 748 2 1 (Plain line.End ∷ app_then (codes "A2") 2 ws (app_then (codes "A3") 3 ws [])) (reads_declare 748 2) 0 ws 749 750 725 1474 1475 1450 (omega (arith, even.of1)) (omega (arith, even.of1)) (omega (arith, even.of1)) (omega arith)
    ∙ ap (λ (ds : List Declaration). app2 ∷ ds) (declare2 ws even)

declare0 : (ws : List ℕ) → AreEven ws → declare (after0 ws) ≡ app1 ∷ app2 ∷ app3 ∷ []
unfolding placed_from opened_by counted is_device is_object is_app is_register is_class is_statement is_post nodes_end declared_by
declare0 ws even =
    all_passed declare 21 1 0 (Plain line.End ∷ app_then (codes "A1") 1 ws (app_then (codes "A2") 2 ws (app_then (codes "A3") 3 ws []))) (reads_declare 21 1) 0 ws 22 23 0 747 748 725 (omega (arith, even.of0)) (omega (arith, even.of0)) (omega (arith, even.of0)) (omega arith)
    ∙ ap (λ (ds : List Declaration). app1 ∷ ds) (declare1 ws even)

abbrev nested_scene : List ℕ → Scene
nested_scene ws = scene_of 1 (numbered 1 (head_lines ++ apps_of ws))

abbrev before_app1 : List Declaration → List Declaration
before_app1 ds =
    record { name = codes "E"; number = 4; at = 3; device = None; thing = thing.Device; order = 0 }
    ∷ record { name = codes "EQ"; number = 5; at = 4; device = Some 3; thing = thing.Queue; order = 1 }
    ∷ record { name = codes "F"; number = 13; at = 12; device = None; thing = thing.Device; order = 2 }
    ∷ record { name = codes "FQ"; number = 14; at = 13; device = Some 12; thing = thing.Queue; order = 3 }
    ∷ app0 ∷ ds

declared_there : (ws : List ℕ) → AreEven ws → declarations (nested_scene ws) ≡ all_declared
unfolding declarations placed placed_from opened_by counted is_device is_object is_app is_register is_class is_statement is_post nodes_after nodes_end declared_by
declared_there ws even = ap before_app1 (declare0 ws even)

-- ---- what is refused

-- the first refusal of some lines, where this is declared
abbrev refuse : Scene → List Placed → Option PlanRefusal
refuse scene ps = first_some (λ (p : Placed). refused scene all_declared (variables_at scene p) p) ps

by_device : (scene : Scene) (b apps at number posts n : ℕ) (even : Bool) → nat_le 4096 posts ≡ false → refused scene all_declared [] (placed_line at (in_app b) (so_far apps posts) (record { number = number; form = line.AtRead 0 (cond even (codes "E") (codes "F")) n; picks = [] })) ≡ None
unfolding refused unknown_name unknown_word stands found nodes_of nodes_end twice_named declared_name assigned_name attribute_of wrong_callback exceeded exceeds over_cpus over_limit over_objects over_level over_parallel over_depth over_ticks is_device is_app is_register is_class is_statement is_post incompatible_level no_parent
by_device scene b apps at number posts n true h = rw h refl
by_device scene b apps at number posts n false h = rw h refl

reads_refuse : (scene : Scene) (b apps : ℕ) → Skips (refuse scene) b apps
unfolding variables_at variables_in
reads_refuse scene b apps = λ at number posts k w ps small.
    ap (λ o. option_or o (refuse scene ps)) (by_device scene b apps at number posts (length_read k w) (w % 2 == 0) (lt-leb 4096 posts small))

refuse3 : (scene : Scene) (ws : List ℕ) → AreEven ws → refuse scene (after3 ws) ≡ None
unfolding placed_from opened_by counted is_device is_object is_app is_register is_class is_statement is_post nodes_after nodes_end refused unknown_name unknown_word unknown_node nodes_of twice_named declared_name first_line reserved_line assigned_name attribute_of wrong_callback exceeded exceeds over_cpus over_limit over_objects over_level over_parallel over_depth over_ticks incompatible_level no_parent variables_at variables_in
refuse3 scene ws even =
    all_passed (refuse scene) 2202 4 3 (Plain line.End ∷ []) (reads_refuse scene 2202 4) 0 ws 2203 2204 2175 2928 2929 2900 (omega (arith, even.of3)) (omega (arith, even.of3)) (omega (arith, even.of3)) (omega arith)

refuse2 : (scene : Scene) (ws : List ℕ) → AreEven ws → refuse scene (after2 ws) ≡ None
unfolding placed_from opened_by counted is_device is_object is_app is_register is_class is_statement is_post nodes_after nodes_end refused unknown_name unknown_word unknown_node nodes_of twice_named declared_name first_line reserved_line assigned_name attribute_of wrong_callback exceeded exceeds over_cpus over_limit over_objects over_level over_parallel over_depth over_ticks incompatible_level no_parent variables_at variables_in
refuse2 scene ws even =
    all_passed (refuse scene) 1475 3 2 (Plain line.End ∷ app_then (codes "A3") 3 ws []) (reads_refuse scene 1475 3) 0 ws 1476 1477 1450 2201 2202 2175 (omega (arith, even.of2)) (omega (arith, even.of2)) (omega (arith, even.of2)) (omega arith)
    ∙ refuse3 scene ws even

refuse1 : (scene : Scene) (ws : List ℕ) → AreEven ws → refuse scene (after1 ws) ≡ None
unfolding placed_from opened_by counted is_device is_object is_app is_register is_class is_statement is_post nodes_after nodes_end refused unknown_name unknown_word unknown_node nodes_of twice_named declared_name first_line reserved_line assigned_name attribute_of wrong_callback exceeded exceeds over_cpus over_limit over_objects over_level over_parallel over_depth over_ticks incompatible_level no_parent variables_at variables_in
refuse1 scene ws even =
    all_passed (refuse scene) 748 2 1 (Plain line.End ∷ app_then (codes "A2") 2 ws (app_then (codes "A3") 3 ws [])) (reads_refuse scene 748 2) 0 ws 749 750 725 1474 1475 1450 (omega (arith, even.of1)) (omega (arith, even.of1)) (omega (arith, even.of1)) (omega arith)
    ∙ refuse2 scene ws even

refuse0 : (scene : Scene) (ws : List ℕ) → AreEven ws → refuse scene (after0 ws) ≡ None
unfolding placed_from opened_by counted is_device is_object is_app is_register is_class is_statement is_post nodes_after nodes_end refused unknown_name unknown_word unknown_node nodes_of twice_named declared_name first_line reserved_line assigned_name attribute_of wrong_callback exceeded exceeds over_cpus over_limit over_objects over_level over_parallel over_depth over_ticks incompatible_level no_parent variables_at variables_in
refuse0 scene ws even =
    all_passed (refuse scene) 21 1 0 (Plain line.End ∷ app_then (codes "A1") 1 ws (app_then (codes "A2") 2 ws (app_then (codes "A3") 3 ws []))) (reads_refuse scene 21 1) 0 ws 22 23 0 747 748 725 (omega (arith, even.of0)) (omega (arith, even.of0)) (omega (arith, even.of0)) (omega arith)
    ∙ refuse1 scene ws even

head_accepted : (ws : List ℕ) → AreEven ws → refuse (nested_scene ws) (placed (nested_scene ws)) ≡ None
unfolding placed placed_from opened_by counted is_device is_object is_app is_register is_class is_statement is_post nodes_after nodes_end refused unknown_name unknown_word unknown_node nodes_of twice_named declared_name first_line reserved_line assigned_name attribute_of wrong_callback exceeded exceeds over_cpus over_limit over_objects over_level over_parallel over_depth over_ticks incompatible_level no_parent variables_at variables_in unknown_class unknown_argument stands found object_count gives_form gives_callback gives is_device_wide given_from given has_given form_at number_at opens is_end block_kind twice_given is_class_or_device assigned_from variables variable_number
head_accepted ws even = refuse0 (nested_scene ws) ws even

text_accepted : (ws : List ℕ) → AreEven ws → first_refusal (nested_scene ws) ≡ None
unfolding first_refusal refused_at
text_accepted ws even =
    let scene = nested_scene ws in
    ap (λ (names : List Declaration). first_some (λ (p : Placed). refused scene names (variables_at scene p) p) (placed scene)) (declared_there ws even)
    ∙ head_accepted ws even

pub generated_accepted : (n : ℕ) → first_refusal (generated n) ≡ None
unfolding generated
generated_accepted n =
    ap (λ (xs : List Written). first_refusal (scene_of 1 (numbered 1 xs))) (text_nested (seed_words n))
    ∙ text_accepted (seed_words n) (seed_even n)
