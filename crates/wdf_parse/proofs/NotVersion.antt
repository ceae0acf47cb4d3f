-- The line `version` is no form.
use Rattle.std.proofs.Common.{◌≡◌, ℕ, false, List, [], ◌∷◌, Option, Some, refl}
use Rattle.wdf_scene.specs.Written.{Written}
use Rattle.wdf_tokens.specs.declared.keyword.Keyword.{Keyword}
use Rattle.wdf_tokens.specs.declared.keyword.Keyword.TheVariants as keyword
use Rattle.wdf_tokens.specs.declared.token.Token.{Token}
use Rattle.wdf_tokens.specs.declared.token.Token.TheVariants as token
use Rattle.wdf_tokens.specs.Keywords.{keyword_of}
use Rattle.wdf_scene_lines.specs.Reading.{read_known, read_written}
use Rattle.wdf_parse.specs.Texts.{version_mark, is_version}

mark_not : (k : Option Keyword) (n : ℕ) (ts : List Token) (w : Written) → read_known k ts ≡ Some w → version_mark k n ≡ false
mark_not (Some keyword.Version) n ts w e = absurd (let z : ⊥ = cc in z)
mark_not _ n ts w e = refl

pub read_not_version : (ts : List Token) (w : Written) → read_written ts ≡ Some w → is_version ts ≡ false
unfolding read_written
read_not_version (token.Word v ∷ token.Number n ∷ []) w e = mark_not (keyword_of v) n (token.Number n ∷ []) w e
read_not_version _ w e = refl
