-- The words that a line may not declare are those that no name of a plan may be.
use Rattle.std.proofs.Common.{◌≡◌, ℕ, Bool, true, false, cond, ◌&&◌, ◌||◌, List, [], ◌∷◌, ◌++◌, map, take, drop, length, find, Option, Some, refl, sym, ◌∙◌}
use Rattle.std.proofs.lemmas.Slice.Eq.{bytes_eq-Decides}
use Rattle.std.proofs.lemmas.List.Folds.{list_any-append}
use Rattle.std.specs.Prelude.{nat_lt, codes}
use Rattle.std.specs.Char.{is_ascii_digit}
use Rattle.std.specs.Option.{is_some}
use Rattle.std.specs.List.{list_all, list_any}
use Rattle.std.specs.Str.{bytes_eq}
use Rattle.std.proofs.Math.Bool.{or-false}
use Rattle.wdf_base.specs.declared.words.TheConstants.{STATUSES}
use Rattle.wdf_base.specs.Words.{status_word, status_of}
use Rattle.wdf_base.specs.Resolved.{is_reserved, is_cpu_word, reserved_words}
use Rattle.wdf_scene.specs.declared.words.TheConstants.{CONTEXT_WORDS}
use Rattle.wdf_scene.specs.Words.{context_word, context_of}
use Rattle.wdf_blocks.specs.Reserved.{is_refused_word, is_actor_word, is_processor_word}

agree : (x y : Bool) → (x ≡ true → y ≡ true) → (y ≡ true → x ≡ true) → x ≡ y
agree true y f g = sym (f refl)
agree false true f g = g refl
agree false false f g = refl

flip_true : (a b : List ℕ) → bytes_eq a b ≡ true → bytes_eq b a ≡ true
flip_true a b e = (bytes_eq-Decides b a).1 (sym ((bytes_eq-Decides a b).0 e))

flip : (a b : List ℕ) → bytes_eq a b ≡ bytes_eq b a
flip a b = agree (bytes_eq a b) (bytes_eq b a) (flip_true a b) (flip_true b a)

found_step : {X : Type 0} (b : Bool) (x : X) (o : Option X) → is_some (cond b (Some x) o) ≡ (b || is_some o)
found_step true x o = refl
found_step false x o = refl

-- a word is found where it is one of the words
some_any : {X : Type 0} (w : X → List ℕ) (n : List ℕ) (xs : List X) → is_some (find (λ x. bytes_eq (w x) n) xs) ≡ list_any (bytes_eq n) (map w xs)
some_any w n [] = refl
some_any w n (x ∷ xs) =
    found_step (bytes_eq (w x) n) x (find (λ y. bytes_eq (w y) n) xs) ∙ rw (flip (w x) n, some_any w n xs) refl

-- the words for who acts
abbrev actor_words : List (List ℕ)
actor_words =
    codes "req" ∷ codes "fw" ∷ codes "clock" ∷ codes "pnp" ∷ codes "driver" ∷ []

actor_any : (n : List ℕ) → list_any (bytes_eq n) actor_words ≡ is_actor_word n
actor_any n = rw (or-false (bytes_eq n (codes "driver"))) refl

cpu_step : (c l d : Bool) → (c && l && d) ≡ (l && (c && d))
cpu_step true true d = refl
cpu_step true false d = refl
cpu_step false true d = refl
cpu_step false false d = refl

or_step : (s c k p : Bool) → (s || (c || k) || p) ≡ (s || (c || (k || p)))
or_step true c k p = refl
or_step false true k p = refl
or_step false false k p = refl

words_any : (n : List ℕ) → list_any (bytes_eq n) reserved_words ≡ (list_any (bytes_eq n) (map status_word STATUSES) || (list_any (bytes_eq n) (map context_word CONTEXT_WORDS) || list_any (bytes_eq n) actor_words))
words_any n =
    list_any-append (bytes_eq n) (map status_word STATUSES) (map context_word CONTEXT_WORDS ++ actor_words) ∙ rw (list_any-append (bytes_eq n) (map context_word CONTEXT_WORDS) actor_words) refl

-- the two lists of words agree
pub reserved_same : (n : List ℕ) → is_refused_word n ≡ is_reserved n
unfolding is_refused_word
reserved_same n =
    let w = words_any n in
    let s = some_any status_word n STATUSES in
    let c = some_any context_word n CONTEXT_WORDS in
    let p : is_cpu_word n ≡ is_processor_word n =
    cpu_step (bytes_eq (take 3 n) (codes "cpu")) (nat_lt 3 (length n)) (list_all is_ascii_digit (drop 3 n)) in
    let whole : (list_any (bytes_eq n) reserved_words || is_cpu_word n) ≡ (is_some (status_of n) || (is_some (context_of n) || (is_actor_word n || is_processor_word n))) =
    rw (w, ← s, ← c, actor_any n, p) (or_step (is_some (status_of n)) (is_some (context_of n)) (is_actor_word n) (is_processor_word n)) in
    sym whole
