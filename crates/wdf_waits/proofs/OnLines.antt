-- The lines of a section, one id after the other; and the sections, one after the other.
use Rattle.std.proofs.Common.{◌≡◌, ℕ, ◌+◌, ◌-◌, ◌<◌, ◌≤◌, true, false, List, [], ◌++◌, Option, Some, None, is_some, length, refl, sym, ap, ◌∙◌, arith, length-append, append_assoc, append-nil}
use Rattle.std.specs.List.{cons_option, filter_map, range_with_len}
use Rattle.wdf_base.specs.Meaning.{Meaning}
use Rattle.wdf_base.specs.declared.plan.Plan.{Plan}
use Rattle.wdf_base.specs.declared.wait.WaitLine.{WaitLine}
use Rattle.wdf_model.specs.State.{State}
use Rattle.wdf_model.specs.rules.Waits.{wait_lines}
use Rattle.wdf_waits.specs.Lines.{line_in, lines_below, section_lines}
use Rattle.wdf_waits.specs.declared.section.Section.{Section}
use Rattle.wdf_waits.specs.declared.section.Section.TheVariants as section
use Rattle.wdf_causes.proofs.Ranges.{range_ends, range_opens, range_whole}

-- ---- a line that is there, or isn't

counts_by : (o : Option WaitLine) (ls : List WaitLine) → is_some o ≡ true → length (cons_option o ls) ≡ length ls + 1
counts_by None ls e = absurd (let z : ⊥ = cc in z)
counts_by (Some l) ls e = omega arith

skips_by : (o : Option WaitLine) (ls : List WaitLine) → is_some o ≡ false → cons_option o ls ≡ ls
skips_by None ls e = refl
skips_by (Some l) ls e = absurd (let z : ⊥ = cc in z)

-- ---- the lines of a section from an id on

module _ {A : Type 0} (plan : Plan) (m : Meaning A) (S : State A) (s : Section) (end : ℕ) where
  pub lines_from : ℕ → List WaitLine
  lines_from id = filter_map (line_in plan m S s) (range_with_len id (end - id))

  pub lines_at_first : lines_below plan m S s end ≡ section_lines plan m S s → lines_from 0 ≡ section_lines plan m S s
  unfolding lines_from
  lines_at_first h = ap (filter_map (line_in plan m S s)) (range_whole end) ∙ h

  opened : (id : ℕ) → id < end → lines_from id ≡ cons_option (line_in plan m S s id) (lines_from (id + 1))
  unfolding lines_from
  opened id h = ap (filter_map (line_in plan m S s)) (range_opens id end h)

  pub line_counts : (id : ℕ) → id < end → is_some (line_in plan m S s id) ≡ true → length (lines_from id) ≡ length (lines_from (id + 1)) + 1
  line_counts id h e = ap length (opened id h) ∙ counts_by (line_in plan m S s id) (lines_from (id + 1)) e

  pub line_skips : (id : ℕ) → id < end → is_some (line_in plan m S s id) ≡ false → lines_from (id + 1) ≡ lines_from id
  line_skips id h e = sym (opened id h ∙ skips_by (line_in plan m S s id) (lines_from (id + 1)) e)

  pub lines_at_end : (id : ℕ) → end ≤ id → lines_from id ≡ []
  unfolding lines_from
  lines_at_end id h = ap (filter_map (line_in plan m S s)) (range_ends id end h)

-- ---- the sections

pub six : (a b c d e f : List WaitLine) → a ++ b ++ c ++ d ++ e ++ f ≡ a ++ (b ++ (c ++ (d ++ (e ++ (f ++ [])))))
six a b c d e f = simp (append_assoc, append-nil)

six_lengths : (a b c d e f : List WaitLine) → length (a ++ b ++ c ++ d ++ e ++ f) ≡ length a + length b + length c + length d + length e + length f
six_lengths a b c d e f = simp length-append

module _ {A : Type 0} (plan : Plan) (m : Meaning A) (S : State A) where
  pub lines_counted : length (wait_lines plan m S)
      ≡ length (section_lines plan m S section.Frames) + length (section_lines plan m S section.Requests) + length (section_lines plan m S section.Devices)
      + length (section_lines plan m S section.Objects) + length (section_lines plan m S section.Work) + length (section_lines plan m S section.Asking)
  lines_counted =
      six_lengths (section_lines plan m S section.Frames) (section_lines plan m S section.Requests) (section_lines plan m S section.Devices)
      (section_lines plan m S section.Objects) (section_lines plan m S section.Work) (section_lines plan m S section.Asking)
