-- What tests say, passed on from wdf_base. Declares nothing.
pub use Rattle.wdf_base.proofs.Tests.{all_three, all_four, alone, both, both_left, both_right, decided, either_false, first, in_filter, in_filter_of, itself, left_fails, not_both, not_false, not_true, positive, right_fails, right_so, second}
