-- What has been sent, after one event more and where there is none.
use Rattle.std.proofs.Common.{◌≡◌, inl, inr, ℕ, ◌+◌, ◌<◌, ◌≤◌, true, false, List, [], ◌∷◌, ◌++◌, length, Some, slice_get, refl, ap, sym, ◌∙◌, arith, length-append}
use Rattle.wdf_base.specs.declared.event.Event.{Event}
use Rattle.wdf_pipe.specs.declared.pipe.Account.{Account}
use Rattle.wdf_pipe.specs.declared.item.Item.{Item}
use Rattle.wdf_pipe.specs.declared.item.Item.TheVariants.{Numbered}
use Rattle.wdf_pipe.specs.Pipe.{account}
use Rattle.wdf_live.specs.Slot.{numbered}
use Rattle.wdf_live.proofs.Lines.{numbered_more, numbered_length}
use Rattle.wdf_turn.specs.Tokens.{IsGrown}

-- the last of a list with one more
seam : (xs : List Event) (x : Event) → slice_get (xs ++ x ∷ []) (length xs) ≡ Some x
seam [] x = refl
seam (y ∷ ys) x = seam ys x

same_event : (journal now : List Event) (x e : Event) (n : ℕ) → now ≡ journal ++ x ∷ [] → n ≡ length journal → slice_get now n ≡ Some e → x ≡ e
same_event journal now x e n more at found =
    let there : slice_get now n ≡ Some x = ap (λ (l : List Event). slice_get l n) more ∙ ap (λ (k : ℕ). slice_get (journal ++ x ∷ []) k) at ∙ seam journal x in
    cc (there, found)

-- the event that was added was sent
pub sent_one : (v w : Account) (journal now : List Event) (e : Event) (n : ℕ) → v ≡ account true false (numbered 1 journal) [] → n ≡ length journal → IsGrown journal now
    → n < length now → slice_get now n ≡ Some e → w ≡ account v.sends v.takes (v.sent ++ Numbered (n + 1) e ∷ []) v.taken → w ≡ account true false (numbered 1 now) []
sent_one v w journal now e n sent at (inl same) below found is = let l = ap length same in absurd (omega arith)
sent_one v w journal now e n sent at (inr (x, more)) below found is =
    let event : x ≡ e = same_event journal now x e n more at found in
    let number : n + 1 ≡ 1 + length journal = omega arith in
    let list : numbered 1 journal ++ Numbered (n + 1) e ∷ [] ≡ numbered 1 now =
    ap (λ (k : ℕ). numbered 1 journal ++ Numbered k e ∷ []) number ∙ sym (numbered_more 1 journal e) ∙ ap (λ (y : Event). numbered 1 (journal ++ y ∷ [])) (sym event) ∙ ap (λ (l : List Event). numbered 1 l) (sym more) in
    is ∙ ap (λ (u : Account). account u.sends u.takes (u.sent ++ Numbered (n + 1) e ∷ []) u.taken) sent ∙ ap (λ (l : List Item). account true false l []) list

-- nothing was added
pub sent_none : (v : Account) (journal now : List Event) (n : ℕ) → v ≡ account true false (numbered 1 journal) [] → n ≡ length journal → IsGrown journal now
    → length now ≤ n → v ≡ account true false (numbered 1 now) []
sent_none v journal now n sent at (inl same) most = sent ∙ ap (λ (l : List Event). account true false (numbered 1 l) []) (sym same)
sent_none v journal now n sent at (inr (x, more)) most = let l = ap length more ∙ length-append journal (x ∷ []) in absurd (omega arith)

-- what has been sent is less than the places of the pipe
pub has_room : (v : Account) (journal : List Event) (limit places : ℕ) → v ≡ account true false (numbered 1 journal) [] → length journal ≤ limit → limit < places → length v.sent < places
has_room v journal limit places sent within room = let n = ap (λ (u : Account). length u.sent) sent ∙ numbered_length 1 journal in omega arith
