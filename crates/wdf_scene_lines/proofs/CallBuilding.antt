-- A call is read from its arguments.
use Rattle.std.proofs.Common.{◌≡◌, ℕ, ◌+◌, Bool, true, false, List, [], ◌∷◌, ◌++◌, length, Option, Some, None, refl, ap, ◌∙◌, sym, subst, length-append}
use Rattle.wdf_base.specs.Calls.{signature_of}
use Rattle.wdf_base.specs.declared.call.CallKind.{CallKind}
use Rattle.wdf_scene.specs.declared.line.SceneArg.{SceneArg}
use Rattle.wdf_scene.specs.declared.line.SceneLine.TheVariants as line
use Rattle.wdf_scene.specs.declared.scene.Scene.{Scene}
use Rattle.wdf_scene.specs.Written.{Argument, Missing, Written, Calling, argument_size, argument_nodes, numbered_argument, line_at}
use Rattle.wdf_tokens.specs.declared.token.Token.{Token}
use Rattle.wdf_scene_lines.specs.Reading.{ArgumentReading, NoArgument, ArgumentBefore, read_argument, first_read, second_read, third_read}
use Rattle.wdf_scene_lines.specs.Building.{IsArgumentRead, BuildsLine, IsLineRead, with_nodes, next_node}
use Rattle.wdf_scene_lines.proofs.TreeBuilding.{with_nodes_twice}

length_argument : (a : Argument) → length (argument_nodes a) ≡ argument_size a
length_argument Missing = refl
length_argument _ = refl

next_argument : (a : Argument) (old new : Scene) → new ≡ with_nodes old (argument_nodes a) → next_node new ≡ next_node old + argument_size a
next_argument a old new is = ap next_node is ∙ length-append old.exprs (argument_nodes a) ∙ ap (λ n. next_node old + n) (length_argument a)

-- three arguments that are read
record Arguments (a b c : Argument) (x y z : SceneArg) (s0 s1 s2 s3 : Scene) : Type 0 where
  first : x ≡ numbered_argument (next_node s0) a
  first_built : s1 ≡ with_nodes s0 (argument_nodes a)
  second : y ≡ numbered_argument (next_node s1) b
  second_built : s2 ≡ with_nodes s1 (argument_nodes b)
  third : z ≡ numbered_argument (next_node s2) c
  third_built : s3 ≡ with_nodes s2 (argument_nodes c)

call_form : (kind : CallKind) (into : Option (List ℕ)) (a b c : Argument) (x y z : SceneArg) (s0 s1 s2 s3 : Scene) → Arguments a b c x y z s0 s1 s2 s3 → line.Call kind into x y z ≡ line_at (next_node s0) (Calling kind into a b c)
call_form kind into a b c x y z s0 s1 s2 s3 h =
    let n1 : next_node s1 ≡ next_node s0 + argument_size a = next_argument a s0 s1 h.first_built in
    let n2 : next_node s2 ≡ next_node s0 + argument_size a + argument_size b = next_argument b s1 s2 h.second_built ∙ ap (λ n. n + argument_size b) n1 in
    ap (λ v. line.Call kind into v y z) h.first
    ∙ ap (λ v. line.Call kind into (numbered_argument (next_node s0) a) v z) (h.second ∙ ap (λ n. numbered_argument n b) n1)
    ∙ ap (λ v. line.Call kind into (numbered_argument (next_node s0) a) (numbered_argument (next_node s0 + argument_size a) b) v) (h.third ∙ ap (λ n. numbered_argument n c) n2)

call_built : (a b c : Argument) (x y z : SceneArg) (s0 s1 s2 s3 : Scene) → Arguments a b c x y z s0 s1 s2 s3 → s3 ≡ with_nodes s0 (argument_nodes a ++ (argument_nodes b ++ argument_nodes c))
call_built a b c x y z s0 s1 s2 s3 h =
    h.third_built
    ∙ ap (λ s. with_nodes s (argument_nodes c)) h.second_built
    ∙ with_nodes_twice s1 (argument_nodes b) (argument_nodes c)
    ∙ ap (λ s. with_nodes s (argument_nodes b ++ argument_nodes c)) h.first_built
    ∙ with_nodes_twice s0 (argument_nodes a) (argument_nodes b ++ argument_nodes c)

is_nothing : List Token → Bool
is_nothing [] = true
is_nothing (t ∷ ts) = false

-- what is read where the three arguments are
three_read : (kind : CallKind) (into : Option (List ℕ)) (a b c : Argument) (b1 b2 b3 : List Token) → read_argument (signature_of kind).b b1 ≡ ArgumentBefore b b2 → read_argument (signature_of kind).c b2 ≡ ArgumentBefore c b3 → first_read kind into (ArgumentBefore a b1) ≡ third_read kind into a b (ArgumentBefore c b3)
three_read kind into a b c b1 b2 b3 second third = ap (second_read kind into a) second ∙ ap (third_read kind into a b) third

none_left : (kind : CallKind) (into : Option (List ℕ)) (a b c : Argument) (ts : List Token) → (ts ≡ [] → ⊥) → third_read kind into a b (ArgumentBefore c ts) ≡ None
none_left kind into a b c [] h = absurd (h refl)
none_left kind into a b c (t ∷ ts) h = refl

-- the arguments are read, and nothing is left
pub call_read : (kind : CallKind) (into : Option (List ℕ)) (first second third : ArgumentReading) (l1 l2 l3 : List Token) (s0 s1 s2 s3 : Scene) (x y z : SceneArg)
    → IsArgumentRead first (Some x) l1 s0 s1
    → second ≡ read_argument (signature_of kind).b l1 → IsArgumentRead second (Some y) l2 s1 s2
    → third ≡ read_argument (signature_of kind).c l2 → IsArgumentRead third (Some z) l3 s2 s3
    → l3 ≡ []
    → IsLineRead (first_read kind into first) (Some (line.Call kind into x y z)) s0 s3
call_read kind into NoArgument second third l1 l2 l3 s0 s1 s2 s3 x y z h1 is2 h2 is3 h3 done = absurd h1
call_read kind into (ArgumentBefore a b1) NoArgument third l1 l2 l3 s0 s1 s2 s3 x y z h1 is2 h2 is3 h3 done = absurd h2
call_read kind into (ArgumentBefore a b1) (ArgumentBefore b b2) NoArgument l1 l2 l3 s0 s1 s2 s3 x y z h1 is2 h2 is3 h3 done = absurd h3
call_read kind into (ArgumentBefore a b1) (ArgumentBefore b b2) (ArgumentBefore c b3) l1 l2 l3 s0 s1 s2 s3 x y z h1 is2 h2 is3 h3 done =
    let three : Arguments a b c x y z s0 s1 s2 s3 = record {
      first = h1.number;
      first_built = h1.built;
      second = h2.number;
      second_built = h2.built;
      third = h3.number;
      third_built = h3.built;
    } in
    let steps = three_read kind into a b c b1 b2 b3
    (ap (read_argument (signature_of kind).b) (sym h1.left_is) ∙ sym is2)
    (ap (read_argument (signature_of kind).c) (sym h2.left_is) ∙ sym is3) in
    let done3 : b3 ≡ [] = sym h3.left_is ∙ done in
    let steps_done : first_read kind into (ArgumentBefore a b1) ≡ Some (Calling kind into a b c) = steps ∙ ap (λ ts. third_read kind into a b (ArgumentBefore c ts)) done3 in
    let P : Option Written → Type 0 = λ w. IsLineRead w (Some (line.Call kind into x y z)) s0 s3 in
    let all : BuildsLine (Calling kind into a b c) (line.Call kind into x y z) s0 s3 = record {
      form_is = call_form kind into a b c x y z s0 s1 s2 s3 three;
      unpicked = refl;
      built = call_built a b c x y z s0 s1 s2 s3 three;
    } in
    subst P (sym steps_done) all

-- the arguments are read, and something is left
pub call_overfull : (kind : CallKind) (into : Option (List ℕ)) (first second third : ArgumentReading) (l1 l2 l3 : List Token) (s0 s1 s2 s3 : Scene) (x y z : SceneArg)
    → IsArgumentRead first (Some x) l1 s0 s1
    → second ≡ read_argument (signature_of kind).b l1 → IsArgumentRead second (Some y) l2 s1 s2
    → third ≡ read_argument (signature_of kind).c l2 → IsArgumentRead third (Some z) l3 s2 s3
    → (l3 ≡ [] → ⊥)
    → IsLineRead (first_read kind into first) None s0 s3
call_overfull kind into NoArgument second third l1 l2 l3 s0 s1 s2 s3 x y z h1 is2 h2 is3 h3 more = absurd h1
call_overfull kind into (ArgumentBefore a b1) NoArgument third l1 l2 l3 s0 s1 s2 s3 x y z h1 is2 h2 is3 h3 more = absurd h2
call_overfull kind into (ArgumentBefore a b1) (ArgumentBefore b b2) NoArgument l1 l2 l3 s0 s1 s2 s3 x y z h1 is2 h2 is3 h3 more = absurd h3
call_overfull kind into (ArgumentBefore a b1) (ArgumentBefore b b2) (ArgumentBefore c b3) l1 l2 l3 s0 s1 s2 s3 x y z h1 is2 h2 is3 h3 more =
    let steps = three_read kind into a b c b1 b2 b3
    (ap (read_argument (signature_of kind).b) (sym h1.left_is) ∙ sym is2)
    (ap (read_argument (signature_of kind).c) (sym h2.left_is) ∙ sym is3) in
    let P : Option Written → Type 0 = λ w. IsLineRead w None s0 s3 in
    subst P (sym (steps ∙ none_left kind into a b c b3 (λ e. more (h3.left_is ∙ e)))) tt

-- an argument isn't there
pub call_without_first : (kind : CallKind) (into : Option (List ℕ)) (first : ArgumentReading) (l1 : List Token) (s0 s1 : Scene)
    → IsArgumentRead first None l1 s0 s1
    → IsLineRead (first_read kind into first) None s0 s1
call_without_first kind into NoArgument l1 s0 s1 h1 = tt
call_without_first kind into (ArgumentBefore a b1) l1 s0 s1 h1 = absurd h1

pub call_without_second : (kind : CallKind) (into : Option (List ℕ)) (first second : ArgumentReading) (l1 l2 : List Token) (s0 s1 s2 : Scene) (x : SceneArg)
    → IsArgumentRead first (Some x) l1 s0 s1
    → second ≡ read_argument (signature_of kind).b l1 → IsArgumentRead second None l2 s1 s2
    → IsLineRead (first_read kind into first) None s0 s2
call_without_second kind into NoArgument second l1 l2 s0 s1 s2 x h1 is2 h2 = absurd h1
call_without_second kind into (ArgumentBefore a b1) (ArgumentBefore b b2) l1 l2 s0 s1 s2 x h1 is2 h2 = absurd h2
call_without_second kind into (ArgumentBefore a b1) NoArgument l1 l2 s0 s1 s2 x h1 is2 h2 =
    let second = ap (read_argument (signature_of kind).b) (sym h1.left_is) ∙ sym is2 in
    let P : Option Written → Type 0 = λ w. IsLineRead w None s0 s2 in
    subst P (sym (ap (second_read kind into a) second)) tt

pub call_without_third : (kind : CallKind) (into : Option (List ℕ)) (first second third : ArgumentReading) (l1 l2 l3 : List Token) (s0 s1 s2 s3 : Scene) (x y : SceneArg)
    → IsArgumentRead first (Some x) l1 s0 s1
    → second ≡ read_argument (signature_of kind).b l1 → IsArgumentRead second (Some y) l2 s1 s2
    → third ≡ read_argument (signature_of kind).c l2 → IsArgumentRead third None l3 s2 s3
    → IsLineRead (first_read kind into first) None s0 s3
call_without_third kind into NoArgument second third l1 l2 l3 s0 s1 s2 s3 x y h1 is2 h2 is3 h3 = absurd h1
call_without_third kind into (ArgumentBefore a b1) NoArgument third l1 l2 l3 s0 s1 s2 s3 x y h1 is2 h2 is3 h3 = absurd h2
call_without_third kind into (ArgumentBefore a b1) (ArgumentBefore b b2) (ArgumentBefore c b3) l1 l2 l3 s0 s1 s2 s3 x y h1 is2 h2 is3 h3 = absurd h3
call_without_third kind into (ArgumentBefore a b1) (ArgumentBefore b b2) NoArgument l1 l2 l3 s0 s1 s2 s3 x y h1 is2 h2 is3 h3 =
    let second = ap (read_argument (signature_of kind).b) (sym h1.left_is) ∙ sym is2 in
    let third = ap (read_argument (signature_of kind).c) (sym h2.left_is) ∙ sym is3 in
    let P : Option Written → Type 0 = λ w. IsLineRead w None s0 s3 in
    subst P (sym (ap (second_read kind into a) second ∙ ap (third_read kind into a b) third)) tt
