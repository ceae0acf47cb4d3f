-- Each verb is read back, and nothing else is read so.
use Rattle.std.proofs.Common.{◌≡◌, ◌∙◌, Option, None, Some, List, ℕ, find, refl, subst, sym}
use Rattle.std.proofs.lemmas.Slice.Eq.{bytes_eq-Decides}
use Rattle.std.specs.Str.{bytes_eq}
use Rattle.wdf_base.proofs.WordLaws.{find_passes}
use Rattle.wdf_trace.specs.declared.verb.Verb.{Verb}
use Rattle.wdf_trace.specs.declared.verb.Verb.TheVariants as verb
use Rattle.wdf_trace.specs.declared.verb.TheConstants.{VERBS}
use Rattle.wdf_trace.specs.Verbs.{verb_word, verb_of, alike, with_letter}

verb_back : (x : Verb) → verb_of (verb_word x) ≡ Some x
verb_back verb.Start = refl
verb_back _ = refl

verb_only : (x : Verb) (word : List ℕ) → verb_of word ≡ Some x → verb_word x ≡ word
verb_only x word e = (bytes_eq-Decides (verb_word x) word).0 (find_passes (λ y. bytes_eq (verb_word y) word) VERBS x e)

-- each verb is found among those that are alike
alike_back : (x : Verb) → find (λ y. bytes_eq (verb_word y) (verb_word x)) (alike (verb_word x)) ≡ Some x
unfolding with_letter
alike_back verb.Start = refl
alike_back _ = refl

found_or : (word : List ℕ) (few all : Option Verb) → find (λ x. bytes_eq (verb_word x) word) (alike word) ≡ few → verb_of word ≡ all → few ≡ all
found_or word None None f a = refl
found_or word None (Some x) f a =
    let e : find (λ y. bytes_eq (verb_word y) word) (alike word) ≡ Some x = subst (λ w. find (λ y. bytes_eq (verb_word y) w) (alike w) ≡ Some x) (verb_only x word a) (alike_back x) in
    sym f ∙ e
found_or word (Some x) all f a =
    let e : verb_word x ≡ word = (bytes_eq-Decides (verb_word x) word).0 (find_passes (λ y. bytes_eq (verb_word y) word) (alike word) x f) in
    let k : verb_of word ≡ Some x = subst (λ w. verb_of w ≡ Some x) e (verb_back x) in
    sym k ∙ a

-- so that is the verb with the word
pub found_alike : (word : List ℕ) → find (λ x. bytes_eq (verb_word x) word) (alike word) ≡ verb_of word
found_alike word = found_or word _ _ refl refl
