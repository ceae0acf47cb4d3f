-- Each keyword is read back, and nothing else is read so.
use Rattle.std.proofs.Common.{◌≡◌, ◌∙◌, Option, None, Some, List, ℕ, find, refl, subst, sym}
use Rattle.std.proofs.lemmas.Slice.Eq.{bytes_eq-Decides}
use Rattle.std.specs.Str.{bytes_eq}
use Rattle.wdf_base.proofs.WordLaws.{find_passes}
use Rattle.wdf_tokens.specs.declared.keyword.Keyword.{Keyword}
use Rattle.wdf_tokens.specs.declared.keyword.Keyword.TheVariants as keyword
use Rattle.wdf_tokens.specs.declared.keyword.TheConstants.{KEYWORDS}
use Rattle.wdf_tokens.specs.Keywords.{keyword_word, keyword_of, alike, with_letter}

pub keyword_back : (x : Keyword) → keyword_of (keyword_word x) ≡ Some x
unfolding keyword_of
keyword_back keyword.Version = refl
keyword_back _ = refl

pub keyword_only : (x : Keyword) (word : List ℕ) → keyword_of word ≡ Some x → keyword_word x ≡ word
unfolding keyword_of
keyword_only x word e = (bytes_eq-Decides (keyword_word x) word).0 (find_passes (λ y. bytes_eq (keyword_word y) word) KEYWORDS x e)

-- each keyword is found among those that are alike
alike_back : (x : Keyword) → find (λ y. bytes_eq (keyword_word y) (keyword_word x)) (alike (keyword_word x)) ≡ Some x
unfolding with_letter
alike_back keyword.Version = refl
alike_back _ = refl

found_or : (word : List ℕ) (few all : Option Keyword) → find (λ x. bytes_eq (keyword_word x) word) (alike word) ≡ few → keyword_of word ≡ all → few ≡ all
found_or word None None f a = refl
found_or word None (Some x) f a =
    let e : find (λ y. bytes_eq (keyword_word y) word) (alike word) ≡ Some x = subst (λ w. find (λ y. bytes_eq (keyword_word y) w) (alike w) ≡ Some x) (keyword_only x word a) (alike_back x) in
    sym f ∙ e
found_or word (Some x) all f a =
    let e : keyword_word x ≡ word = (bytes_eq-Decides (keyword_word x) word).0 (find_passes (λ y. bytes_eq (keyword_word y) word) (alike word) x f) in
    let k : keyword_of word ≡ Some x = subst (λ w. keyword_of w ≡ Some x) e (keyword_back x) in
    sym k ∙ a

-- so that is the keyword with the word
pub found_alike : (word : List ℕ) → find (λ x. bytes_eq (keyword_word x) word) (alike word) ≡ keyword_of word
found_alike word = found_or word _ _ refl refl
