-- The findings of a callback: of the states that break a rule at a statement the first in order has a best path.
use Rattle.std.proofs.Common.{◌≡◌, ℕ, zero, suc, ◌+◌, ◌==◌, ◌<◌, ◌≤◌, nat_lt, Bool, true, false, ◌&&◌, ◌||◌, inl, inr, List, [], ◌∷◌, ◌++◌, length, Some, None, slice_get, refl, sym, ap, subst, ◌∙◌, arith}
use Rattle.std.specs.List.{list_any}
use Rattle.std.proofs.lemmas.Bool.Decides.{Decides-eqb}
use Rattle.std.proofs.lemmas.List.{length-map, length-reverse}
use Rattle.std.proofs.lemmas.Option.{slice_get_within}
use Rattle.wdf_base.specs.declared.plan.Plan.{Plan}
use Rattle.wdf_base.specs.declared.event.Fault.{Fault}
use Rattle.wdf_lint.specs.declared.state.Abstract.{Abstract}
use Rattle.wdf_lint.specs.declared.findings.Found.{Found}
use Rattle.wdf_lint.specs.Steps.{breaks}
use Rattle.wdf_lint.specs.Walks.{IsReached, line_at, lines_of}
use Rattle.wdf_lint.specs.Findings.{IsBig, IsFinding, IsOfStatement, IsWalkTo, Spot, is_less, rule_number}
use Rattle.wdf_lint.specs.Found.{IsAllOf, IsNoted, finding_of, spot_of}
use Rattle.wdf_lint.specs.Paths.{NoLater}
use Rattle.wdf_lint.specs.Searches.{IsSearched, IsTable, PathAt, Table}
use Rattle.wdf_lint.proofs.Places.{before_or_not, get_last, in_last, not_both, on_by, same_some, sooner_or_there, stays}
use Rattle.wdf_lint.proofs.PathOrder.{later_then, no_less, no_shorter}
use Rattle.wdf_lint.proofs.Searching.{not_big}

-- a finding that is noted, of one of the first n states of a table: the first that breaks its rule at its statement
pub record IsBreach (plan : Plan) (k : ℕ) (t : Table) (n : ℕ) (f : Found) : Type 0 where
  pub place : ℕ
  pub state : Abstract
  pub broken : Fault
  pub before : place < n
  pub here : slice_get t.states place ≡ Some state
  pub breaks_it : breaks plan k state ≡ Some broken
  pub script : f.script ≡ k
  pub at : f.at ≡ state.at
  pub rule : f.rule ≡ rule_number broken
  pub line : f.line ≡ line_at plan k state
  pub path : PathAt t place f.path
  pub first : (j : ℕ) (b : Abstract) (y : Fault) → j < place → slice_get t.states j ≡ Some b → breaks plan k b ≡ Some y → b.at ≡ state.at → rule_number y ≡ rule_number broken → ⊥

-- the findings of the first n states
pub record AreBreaches (plan : Plan) (k : ℕ) (t : Table) (found : List Found) (n : ℕ) : Type 0 where
  pub each : (m : ℕ) (f : Found) → slice_get found m ≡ Some f → IsBreach plan k t n f
  pub all : (i : ℕ) (a : Abstract) (x : Fault) → i < n → slice_get t.states i ≡ Some a → breaks plan k a ≡ Some x → (m : ℕ) × (f : Found) × (slice_get found m ≡ Some f) × (f.at ≡ a.at) × (f.rule ≡ rule_number x)
  pub once : (m l : ℕ) (f g : Found) → slice_get found m ≡ Some f → slice_get found l ≡ Some g → f.at ≡ g.at → f.rule ≡ g.rule → m ≡ l

pub none_yet : (plan : Plan) (k : ℕ) (t : Table) → AreBreaches plan k t [] 0
none_yet plan k t = record { each = λ m f at. not_both at refl; all = λ i a x less at is. absurd (omega arith); once = λ m l f g at. not_both at refl }

later : (plan : Plan) (k : ℕ) (t : Table) (n : ℕ) (f : Found) → IsBreach plan k t n f → IsBreach plan k t (n + 1) f
later plan k t n f b = record {
  place = b.place;
  state = b.state;
  broken = b.broken;
  before = let z = b.before in omega arith;
  here = b.here;
  breaks_it = b.breaks_it;
  script = b.script;
  at = b.at;
  rule = b.rule;
  line = b.line;
  path = b.path;
  first = b.first;
}

-- ---- one state more

-- it breaks no rule
pub passes : (plan : Plan) (k : ℕ) (t : Table) (found : List Found) (n : ℕ) (a : Abstract) → slice_get t.states n ≡ Some a → breaks plan k a ≡ None → AreBreaches plan k t found n → AreBreaches plan k t found (n + 1)
passes plan k t found n a at off k_ = record { each = λ m f h. later plan k t n f (k_.each m f h); all = all; once = k_.once }
  where
    all : (i : ℕ) (b : Abstract) (x : Fault) → i < n + 1 → slice_get t.states i ≡ Some b → breaks plan k b ≡ Some x → (m : ℕ) × (f : Found) × (slice_get found m ≡ Some f) × (f.at ≡ b.at) × (f.rule ≡ rule_number x)
    all i b x less at_i is = elim (sooner_or_there i n less) [
      | inl before ↦ k_.all i b x before at_i is
      | inr e ↦
          let same : a ≡ b = same_some (sym at ∙ subst (λ m. slice_get t.states m ≡ Some b) e at_i) in
          not_both is (subst (λ c. breaks plan k c ≡ None) same off)
    ]

both_parts : (b c : Bool) → (b && c) ≡ true → (b ≡ true) × (c ≡ true)
both_parts true c h = (refl, h)
both_parts false c h = absurd (let z : ⊥ = cc in z)

noted_in : (at rule : ℕ) (found : List Found) → list_any (λ (f : Found). (f.at == at) && (f.rule == rule)) found ≡ true → (m : ℕ) × (f : Found) × (slice_get found m ≡ Some f) × (f.at ≡ at) × (f.rule ≡ rule)
noted_in at rule [] h = absurd (let z : ⊥ = cc in z)
noted_in at rule (f ∷ fs) h = by ((f.at == at) && (f.rule == rule)) refl (λ e. noted_in at rule fs (sym (ap (λ c. c || list_any (λ (g : Found). (g.at == at) && (g.rule == rule)) fs) e) ∙ h))
  where
    by : (b : Bool) → ((f.at == at) && (f.rule == rule)) ≡ b → (((f.at == at) && (f.rule == rule)) ≡ false → (m : ℕ) × (g : Found) × (slice_get fs m ≡ Some g) × (g.at ≡ at) × (g.rule ≡ rule))
        → (m : ℕ) × (g : Found) × (slice_get (f ∷ fs) m ≡ Some g) × (g.at ≡ at) × (g.rule ≡ rule)
    by true e rest = let p = both_parts (f.at == at) (f.rule == rule) e in (zero, f, refl, (Decides-eqb f.at at).0 p.0, (Decides-eqb f.rule rule).0 p.1)
    by false e rest = let r = rest e in (suc r.0, r.1, r.2, r.3, r.4)

unnoted : (at rule : ℕ) (found : List Found) → list_any (λ (f : Found). (f.at == at) && (f.rule == rule)) found ≡ false → (m : ℕ) (f : Found) → slice_get found m ≡ Some f → f.at ≡ at → f.rule ≡ rule → ⊥
unnoted at rule [] h m f is e r = not_both is refl
unnoted at rule (g ∷ gs) h m f is e r = by ((g.at == at) && (g.rule == rule)) refl m is (λ none l there. unnoted at rule gs none l f there e r)
  where
    yes : (x : Found) → x.at ≡ at → x.rule ≡ rule → ((x.at == at) && (x.rule == rule)) ≡ true
    yes x p q = rw ((Decides-eqb x.at at).1 p) ((Decides-eqb x.rule rule).1 q)

    by : (b : Bool) → ((g.at == at) && (g.rule == rule)) ≡ b → (m : ℕ) → slice_get (g ∷ gs) m ≡ Some f
        → (list_any (λ (x : Found). (x.at == at) && (x.rule == rule)) gs ≡ false → (l : ℕ) → slice_get gs l ≡ Some f → ⊥) → ⊥
    by true p m is_ rest = let any : list_any (λ (x : Found). (x.at == at) && (x.rule == rule)) (g ∷ gs) ≡ true = ap (λ c. c || list_any (λ (x : Found). (x.at == at) && (x.rule == rule)) gs) p in let z : ⊥ = cc in z
    by false p zero is_ rest = let same : g ≡ f = same_some is_ in let off : ((f.at == at) && (f.rule == rule)) ≡ false = subst (λ (x : Found). ((x.at == at) && (x.rule == rule)) ≡ false) same p in let on_ = yes f e r in let z : ⊥ = cc in z
    by false p (suc m) is_ rest = rest (sym (ap (λ c. c || list_any (λ (x : Found). (x.at == at) && (x.rule == rule)) gs) p) ∙ h) m is_

-- it breaks a rule that is noted for its statement
pub repeats : (plan : Plan) (k : ℕ) (t : Table) (found : List Found) (n : ℕ) (a : Abstract) (x : Fault) (r : ℕ) → slice_get t.states n ≡ Some a → breaks plan k a ≡ Some x → r ≡ rule_number x → list_any (λ (f : Found). (f.at == a.at) && (f.rule == r)) found ≡ true
    → AreBreaches plan k t found n → AreBreaches plan k t found (n + 1)
repeats plan k t found n a x number at is numbered noted k_ = record { each = λ m f h. later plan k t n f (k_.each m f h); all = all; once = k_.once }
  where
    all : (i : ℕ) (b : Abstract) (y : Fault) → i < n + 1 → slice_get t.states i ≡ Some b → breaks plan k b ≡ Some y → (m : ℕ) × (f : Found) × (slice_get found m ≡ Some f) × (f.at ≡ b.at) × (f.rule ≡ rule_number y)
    all i b y less at_i is_ = elim (sooner_or_there i n less) [
      | inl before ↦ k_.all i b y before at_i is_
      | inr e ↦
          let same : a ≡ b = same_some (sym at ∙ subst (λ m. slice_get t.states m ≡ Some b) e at_i) in
          let rule : x ≡ y = same_some (sym is ∙ subst (λ c. breaks plan k c ≡ Some y) (sym same) is_) in
          let r = noted_in a.at number found noted in
          (r.0, r.1, r.2, r.3 ∙ ap (λ (c : Abstract). c.at) same, r.4 ∙ numbered ∙ ap rule_number rule)
    ]

-- it breaks a rule that isn't, and is noted now
pub notes : (plan : Plan) (k : ℕ) (t : Table) (found : List Found) (n : ℕ) (a : Abstract) (x : Fault) (new : Found) → slice_get t.states n ≡ Some a → breaks plan k a ≡ Some x
    → new.script ≡ k → new.at ≡ a.at → new.rule ≡ rule_number x → new.line ≡ line_at plan k a → PathAt t n new.path
    → list_any (λ (f : Found). (f.at == a.at) && (f.rule == new.rule)) found ≡ false → AreBreaches plan k t found n → AreBreaches plan k t (found ++ new ∷ []) (n + 1)
notes plan k t found n a x new at is e_script e_at e_rule e_line path off k_ = record { each = each; all = all; once = once }
  where
    none_of : (m : ℕ) (f : Found) → slice_get found m ≡ Some f → f.at ≡ a.at → f.rule ≡ rule_number x → ⊥
    none_of m f at_m e r = unnoted a.at new.rule found off m f at_m e (r ∙ sym e_rule)

    first : (j : ℕ) (b : Abstract) (y : Fault) → j < n → slice_get t.states j ≡ Some b → breaks plan k b ≡ Some y → b.at ≡ a.at → rule_number y ≡ rule_number x → ⊥
    first j b y less at_j is_ e r = let m = k_.all j b y less at_j is_ in none_of m.0 m.1 m.2 (m.3 ∙ e) (m.4 ∙ r)

    breach : IsBreach plan k t (n + 1) new
    breach = record {
      place = n;
      state = a;
      broken = x;
      before = omega arith;
      here = at;
      breaks_it = is;
      script = e_script;
      at = e_at;
      rule = e_rule;
      line = e_line;
      path = path;
      first = first;
    }

    each : (m : ℕ) (f : Found) → slice_get (found ++ new ∷ []) m ≡ Some f → IsBreach plan k t (n + 1) f
    each m f h = elim (in_last found new m f h) [
      | inl old ↦ later plan k t n f (k_.each m f old.1)
      | inr last ↦ subst (IsBreach plan k t (n + 1)) (sym last.1) breach
    ]

    all : (i : ℕ) (b : Abstract) (y : Fault) → i < n + 1 → slice_get t.states i ≡ Some b → breaks plan k b ≡ Some y → (m : ℕ) × (f : Found) × (slice_get (found ++ new ∷ []) m ≡ Some f) × (f.at ≡ b.at) × (f.rule ≡ rule_number y)
    all i b y less at_i is_ = elim (sooner_or_there i n less) [
      | inl before ↦ let r = k_.all i b y before at_i is_ in (r.0, r.1, stays found (found ++ new ∷ []) (on_by found (new ∷ [])) r.0 r.1 r.2, r.3, r.4)
      | inr e ↦
          let same : a ≡ b = same_some (sym at ∙ subst (λ m. slice_get t.states m ≡ Some b) e at_i) in
          let rule : x ≡ y = same_some (sym is ∙ subst (λ c. breaks plan k c ≡ Some y) (sym same) is_) in
          (length found, new, get_last found new, e_at ∙ ap (λ (c : Abstract). c.at) same, e_rule ∙ ap rule_number rule)
    ]

    once : (m l : ℕ) (f g : Found) → slice_get (found ++ new ∷ []) m ≡ Some f → slice_get (found ++ new ∷ []) l ≡ Some g → f.at ≡ g.at → f.rule ≡ g.rule → m ≡ l
    once m l f g at_m at_l e r = elim (in_last found new m f at_m) [
      | inl old ↦ elim (in_last found new l g at_l) [
        | inl both ↦ k_.once m l f g old.1 both.1 e r
        | inr last ↦ absurd (none_of m f old.1 (e ∙ ap (λ (c : Found). c.at) last.1 ∙ e_at) (r ∙ ap (λ (c : Found). c.rule) last.1 ∙ e_rule))
      ]
      | inr first_ ↦ elim (in_last found new l g at_l) [
        | inl old ↦ absurd (none_of l g old.1 (sym e ∙ ap (λ (c : Found). c.at) first_.1 ∙ e_at) (sym r ∙ ap (λ (c : Found). c.rule) first_.1 ∙ e_rule))
        | inr last ↦ first_.0 ∙ sym last.0
      ]
    ]

-- ---- all states

lines_many : (plan : Plan) (k : ℕ) (walk : List Abstract) → length (lines_of plan k walk) ≡ length walk
lines_many plan k walk = simp (length-reverse, length-map)

-- no path of a later place comes before
in_order : (plan : Plan) (k : ℕ) (t : Table) → IsTable plan k t → (i j : ℕ) (p q : List ℕ) → i ≤ j → PathAt t i p → PathAt t j q → NoLater p q
in_order plan k t is i j p q le (r, at, is_p) (s, at_, is_q) =
    let up = is.in_order i j r s le at at_ in
    elim (before_or_not r s) [
      | inl less ↦ inr (is.rising r s p q less is_p is_q)
      | inr more ↦ let e : r ≡ s = omega arith in inl (same_some (sym is_p ∙ subst (λ n. slice_get t.paths n ≡ Some q) (sym e) is_q))
    ]

module _ (plan : Plan) (k : ℕ) (t : Table) (s : IsSearched plan k t) (found : List Found) (b : AreBreaches plan k t found (length t.states)) where
  no_sooner : (f : Found) (i : IsBreach plan k t (length t.states) f) (other : List Abstract) → IsWalkTo plan (record { script = k; at = f.at; rule = f.rule }) other → NoLater f.path (lines_of plan k other)
  no_sooner f i [] w = absurd w
  no_sooner f i (a ∷ before) (walk, at, x, is, rule) =
      let r = s.all a before walk in
      elim (before_or_not r.0 i.place) [
        | inl less ↦ absurd (i.first r.0 a x less r.2 is (at ∙ i.at) (rule ∙ i.rule))
        | inr more ↦ later_then f.path r.1 (lines_of plan k (a ∷ before)) (in_order plan k t s.table i.place r.0 f.path r.1 more i.path r.3) r.4
      ]

  of_statement : (f : Found) → IsBreach plan k t (length t.states) f → IsOfStatement plan (record { script = k; at = f.at; rule = f.rule }) (finding_of f)
  of_statement f i =
      let w = s.table.walked i.place i.state f.path i.here i.path in
      let walk : List Abstract = i.state ∷ w.0 in
      record {
        small = not_big plan k t s;
        walk = walk;
        best = record {
          goes = (w.1, sym i.at, i.broken, i.breaks_it, sym i.rule);
          short = λ other to. by_length other walk (no_sooner f i other to) w.2;
          least = λ other to e. subst (λ p. is_less (lines_of plan k other) p ≡ false) w.2 (no_less f.path (lines_of plan k other) (no_sooner f i other to) (lines_many plan k other ∙ e ∙ sym (lines_many plan k walk) ∙ ap length (sym w.2)));
        };
        path = w.2;
        line = λ a h. i.line ∙ ap (line_at plan k) (same_some h);
        rule = refl;
      }
    where
      by_length : (other walk : List Abstract) → NoLater f.path (lines_of plan k other) → f.path ≡ lines_of plan k walk → nat_lt (length other) (length walk) ≡ false
      by_length other walk l e =
          let off = no_shorter f.path (lines_of plan k other) l in
          let one = lines_many plan k other in
          let two : length f.path ≡ length walk = ap length e ∙ lines_many plan k walk in
          subst (λ n. nat_lt (length other) n ≡ false) two (subst (λ n. nat_lt n (length f.path) ≡ false) one off)

  spot_is : (f : Found) (at rule : ℕ) → f.script ≡ k → f.at ≡ at → f.rule ≡ rule → spot_of f ≡ record { script = k; at = at; rule = rule }
  spot_is f at rule a b c = rw a (rw b (rw c refl))

  pub breaches_are_all : IsAllOf plan (λ n. n ≡ k) found
  breaches_are_all = record {
    each = λ n f at. let i = b.each n f at in (i.script, subst (λ (n : ℕ). IsFinding plan (record { script = n; at = f.at; rule = f.rule }) (finding_of f)) (sym i.script) (inr (of_statement f i)));
    size = λ n e big. absurd (not_big plan k t s (subst (IsBig plan) e big));
    statement = statement;
    once = λ m n f g at at_ e. b.once m n f g at at_ (ap (λ (x : Spot). x.at) e) (ap (λ (x : Spot). x.rule) e);
  }
    where
      at_k : (a : Abstract) → IsReached plan k a → (x : Fault) → breaks plan k a ≡ Some x → IsNoted found (record { script = k; at = a.at; rule = rule_number x })
      at_k a (before, walk) x is =
          let r = s.all a before walk in
          let m = b.all r.0 a x (slice_get_within t.states r.0 a r.2) r.2 is in
          (m.0, m.1, m.2, spot_is m.1 a.at (rule_number x) (b.each m.0 m.1 m.2).script m.3 m.4)

      statement : (n : ℕ) → n ≡ k → (IsBig plan n → ⊥) → (a : Abstract) → IsReached plan n a → (x : Fault) → breaks plan n a ≡ Some x → IsNoted found (record { script = n; at = a.at; rule = rule_number x })
      statement n e small a = subst (λ (j : ℕ). IsReached plan j a → (x : Fault) → breaks plan j a ≡ Some x → IsNoted found (record { script = j; at = a.at; rule = rule_number x })) (sym e) (at_k a)
