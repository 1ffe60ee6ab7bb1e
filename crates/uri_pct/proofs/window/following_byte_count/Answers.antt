use Rattle.uri_pct.proofs.Common.{sym, arith}
use Rattle.uri_pct.proofs.Unicode.Unfinished.{one_byte_follows_c2_to_df, two_bytes_follow_e0_to_ef, three_bytes_follow_f0_to_f4, no_byte_follows_below_c2, no_byte_follows_past_f4}
use Rattle.uri_pct.proofs.window.following_byte_count.Goals as goal

pub returns-in-194-to-223 : goal.returns-in-194-to-223
returns-in-194-to-223 c = sym (one_byte_follows_c2_to_df c.args.first (omega arith) (omega arith))

pub returns-in-224-to-239 : goal.returns-in-224-to-239
returns-in-224-to-239 c = sym (two_bytes_follow_e0_to_ef c.args.first (omega arith) (omega arith))

pub returns-in-240-to-244 : goal.returns-in-240-to-244
returns-in-240-to-244 c = sym (three_bytes_follow_f0_to_f4 c.args.first (omega arith) (omega arith))

pub returns-in_default : goal.returns-in_default
returns-in_default c = sym (no_byte_follows_below_c2 c.args.first (omega arith))

pub returns-in_default-2 : goal.returns-in_default-2
returns-in_default-2 c = sym (no_byte_follows_past_f4 c.args.first (omega arith))
