use Rattle.uri_pct.proofs.Common.{refl, arith, nat_tests}
use Rattle.uri_pct.proofs.Unicode.Unfinished.{unfinished_len_by_last_three, unfinished_len_is_by_counts_of_last_three}
use Rattle.uri_pct.proofs.window.unfinished_len.Goals as goal

pub returns-then-following_byte_count-gt2-clause-value
    : goal.returns-then-following_byte_count-gt2-clause-value
unfolding unfinished_len_by_last_three
returns-then-following_byte_count-gt2-clause-value c =
    let all = unfinished_len_is_by_counts_of_last_three c.args.bytes.now _ _ _ c.requires
    c.following_byte_count.ensures refl refl in
    grind (arith, nat_tests)

pub returns-then-following_byte_count-gt1-clause-value
    : goal.returns-then-following_byte_count-gt1-clause-value
unfolding unfinished_len_by_last_three
returns-then-following_byte_count-gt1-clause-value c =
    let all = unfinished_len_is_by_counts_of_last_three c.args.bytes.now _ _ _ c.requires
    c.following_byte_count.ensures
    c.following_byte_count-else-following_byte_count-gt2.ensures refl in
    grind (arith, nat_tests)

pub returns-then-following_byte_count-gt0-clause-value
    : goal.returns-then-following_byte_count-gt0-clause-value
unfolding unfinished_len_by_last_three
returns-then-following_byte_count-gt0-clause-value c =
    let all = unfinished_len_is_by_counts_of_last_three c.args.bytes.now _ _ _ c.requires
    c.following_byte_count.ensures c.following_byte_count-else-following_byte_count-gt2.ensures
    c.following_byte_count-else-following_byte_count-gt1.ensures in
    grind (arith, nat_tests)

pub returns-else-following_byte_count-gt0-clause-value
    : goal.returns-else-following_byte_count-gt0-clause-value
unfolding unfinished_len_by_last_three
returns-else-following_byte_count-gt0-clause-value c =
    let all = unfinished_len_is_by_counts_of_last_three c.args.bytes.now _ _ _ c.requires
    c.following_byte_count.ensures c.following_byte_count-else-following_byte_count-gt2.ensures
    c.following_byte_count-else-following_byte_count-gt1.ensures in
    grind (arith, nat_tests)
