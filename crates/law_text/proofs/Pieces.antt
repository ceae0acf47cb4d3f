-- The piece that a line's bytes begin with. Only blanks and comments say nothing, and a word is its letters.
use Rattle.std.proofs.Common.{◌≡◌, ℕ, Bool, true, false, cond, nat_le, List, [], ◌∷◌, length, Option, Some, None, option_map, Result, Ok, Err, refl, ap}
use Rattle.std.specs.Prelude.{◌==◌, slice_index}
use Rattle.std.specs.Char.{is_ascii_digit, is_ascii_alphabetic}
use Rattle.std.specs.List.{take_while}
use Rattle.wdf_base.specs.declared.call.Callback.{Callback}
use Rattle.wdf_base.specs.declared.script.Operator.{Operator}
use Rattle.wdf_base.specs.Words.{callback_of}
use Rattle.wdf_text.specs.Decimals.{small_number}
use Rattle.wdf_tokens.specs.declared.lexer.TokenFault.{TokenFault}
use Rattle.wdf_tokens.specs.declared.token.Token.{Token}
use Rattle.wdf_tokens.specs.declared.token.Token.TheVariants as token
use Rattle.wdf_tokens.specs.Tokens.{is_blank, is_name_byte, piece_of, number_content, long_content, long_name, name_content, operator_of, mark_token, pair_token, marks_piece, token_at}

-- what holds of both branches of a test holds of the test; the first value names their type
pub picked : {T : Type 0} (of : T) (P : T → Type 0) (b : Bool) (x y : T) → (b ≡ true → P x) → (b ≡ false → P y) → P (cond b x y)
picked of P true x y h e = h refl
picked of P false x y h e = e refl

-- ---- a piece that is no blank and no comment

-- it has a token or a fault
abbrev pub IsSaid : Result (Option Token) TokenFault → Type 0
IsSaid (Ok (Some t)) = Unit {0}
IsSaid (Ok None) = ⊥
IsSaid (Err f) = Unit {0}

number_said : (column : ℕ) (n : Option ℕ) → IsSaid (token_at column (number_content n))
number_said column None = tt
number_said column (Some n) = tt

long_said : (column : ℕ) (c : Option Callback) → IsSaid (token_at column (long_content c))
long_said column None = tt
long_said column (Some c) = tt

name_said : (column : ℕ) (name : List ℕ) → IsSaid (token_at column (name_content name))
unfolding long_name
name_said column name =
    picked (piece_of []).content (λ c. IsSaid (token_at column c)) (nat_le (length name) 32) _ _ (λ _. tt) (λ _. long_said column (callback_of name))

marks_said : (column : ℕ) (pair mark : Option Token) → IsSaid (token_at column (marks_piece pair mark).content)
marks_said column (Some t) mark = tt
marks_said column None (Some t) = tt
marks_said column None None = tt

pub piece_said : (column b : ℕ) (bytes : List ℕ) → is_blank b ≡ false → (b == 35) ≡ false → IsSaid (token_at column (piece_of (b ∷ bytes)).content)
piece_said column b bytes unblank other =
    picked (piece_of []) (λ p. IsSaid (token_at column p.content)) (is_blank b) _ _ (λ is. absurd (let z : ⊥ = cc in z)) (λ _.
    picked (piece_of []) (λ p. IsSaid (token_at column p.content)) (b == 35) _ _ (λ is. absurd (let z : ⊥ = cc in z)) (λ _.
    picked (piece_of []) (λ p. IsSaid (token_at column p.content)) (is_ascii_digit b) _ _ (λ _. number_said column (small_number (take_while is_ascii_digit (b ∷ bytes)))) (λ _.
    picked (piece_of []) (λ p. IsSaid (token_at column p.content)) (is_ascii_alphabetic b) _ _ (λ _. name_said column (take_while is_name_byte (b ∷ bytes))) (λ _.
    marks_said column (pair_token b (slice_index (b ∷ bytes) 1)) (mark_token b)))))

-- ---- a piece that is a word

number_no_word : (column : ℕ) (n : Option ℕ) (w : List ℕ) → token_at column (number_content n) ≡ Ok (Some (token.Word w)) → ⊥
number_no_word column None w h = let z : ⊥ = cc in z
number_no_word column (Some n) w h = let z : ⊥ = cc in z

long_no_word : (column : ℕ) (c : Option Callback) (w : List ℕ) → token_at column (long_content c) ≡ Ok (Some (token.Word w)) → ⊥
long_no_word column None w h = let z : ⊥ = cc in z
long_no_word column (Some c) w h = let z : ⊥ = cc in z

name_named : (column : ℕ) (name w : List ℕ) → token_at column (name_content name) ≡ Ok (Some (token.Word w)) → name ≡ w
unfolding long_name
name_named column name w =
    picked (piece_of []).content (λ c. token_at column c ≡ Ok (Some (token.Word w)) → name ≡ w) (nat_le (length name) 32) _ _
    (λ _ h. let same : name ≡ w = cc in same) (λ _ h. absurd (long_no_word column (callback_of name) w h))

abbrev IsNoWord : Option Token → Type 0
IsNoWord None = Unit {0}
IsNoWord (Some t) = (w : List ℕ) → t ≡ token.Word w → ⊥

token_by : (b : Bool) (x y : Option Token) → IsNoWord x → IsNoWord y → IsNoWord (cond b x y)
token_by true x y h e = h
token_by false x y h e = e

infix_no_word : (op : Option Operator) → IsNoWord (option_map token.Infix op)
infix_no_word None = tt
infix_no_word (Some op) = λ w h. (let z : ⊥ = cc in z)

mark_no_word : (b : ℕ) → IsNoWord (mark_token b)
mark_no_word b =
    token_by (b == 40) _ _ (λ w h. (let z : ⊥ = cc in z)) (token_by (b == 41) _ _ (λ w h. (let z : ⊥ = cc in z)) (token_by (b == 61) _ _ (λ w h. (let z : ⊥ = cc in z)) (infix_no_word (operator_of b))))

pair_no_word : (b next : ℕ) → IsNoWord (pair_token b next)
pair_no_word b next =
    token_by (next == 61) _ _ (token_by (b == 61) _ _ (λ w h. (let z : ⊥ = cc in z)) (token_by (b == 33) _ _ (λ w h. (let z : ⊥ = cc in z)) (token_by (b == 60) _ _ (λ w h. (let z : ⊥ = cc in z)) tt))) tt

marks_no_word : (column : ℕ) (pair mark : Option Token) → IsNoWord pair → IsNoWord mark → (w : List ℕ) → token_at column (marks_piece pair mark).content ≡ Ok (Some (token.Word w)) → ⊥
marks_no_word column (Some t) mark h e w is = h w (let same : t ≡ token.Word w = cc in same)
marks_no_word column None (Some t) h e w is = e w (let same : t ≡ token.Word w = cc in same)
marks_no_word column None None h e w is = let z : ⊥ = cc in z

-- the word is the bytes of a name in front, and as long
abbrev pub IsNamed : List ℕ → List ℕ → ℕ → Type 0
IsNamed bytes w size = (take_while is_name_byte bytes ≡ w) × (size ≡ length w)

pub piece_named : (column b : ℕ) (bytes w : List ℕ) → token_at column (piece_of (b ∷ bytes)).content ≡ Ok (Some (token.Word w)) → IsNamed (b ∷ bytes) w (piece_of (b ∷ bytes)).size
piece_named column b bytes w =
    picked (piece_of []) (λ p. token_at column p.content ≡ Ok (Some (token.Word w)) → IsNamed (b ∷ bytes) w p.size) (is_blank b) _ _ (λ _ h. absurd (let z : ⊥ = cc in z)) (λ _.
    picked (piece_of []) (λ p. token_at column p.content ≡ Ok (Some (token.Word w)) → IsNamed (b ∷ bytes) w p.size) (b == 35) _ _ (λ _ h. absurd (let z : ⊥ = cc in z)) (λ _.
    picked (piece_of []) (λ p. token_at column p.content ≡ Ok (Some (token.Word w)) → IsNamed (b ∷ bytes) w p.size) (is_ascii_digit b) _ _
    (λ _ h. absurd (number_no_word column (small_number (take_while is_ascii_digit (b ∷ bytes))) w h)) (λ _.
    picked (piece_of []) (λ p. token_at column p.content ≡ Ok (Some (token.Word w)) → IsNamed (b ∷ bytes) w p.size) (is_ascii_alphabetic b) _ _
    (λ _ h. let same : take_while is_name_byte (b ∷ bytes) ≡ w = name_named column (take_while is_name_byte (b ∷ bytes)) w h in (same, ap length same))
    (λ _ h. absurd (marks_no_word column (pair_token b (slice_index (b ∷ bytes) 1)) (mark_token b) (pair_no_word b (slice_index (b ∷ bytes) 1)) (mark_no_word b) w h)))))
