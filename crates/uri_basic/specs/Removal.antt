-- Dot segments of any path: RFC 3986, section 5.2.4, as it is printed.
use Rattle.std.specs.Prelude.{ℕ, zero, suc, Bool, ◌||◌, List, [], ◌++◌, length, take, drop, codes, bytes_eq, if◌then◌else◌}
use Rattle.uri_pct.specs.Prelude.{slash}
use Rattle.uri_parts.specs.Prelude.{before_any, from_any, starts}
use Rattle.uri_ops.specs.Prelude.{before_last_slash, is_empty}

-- the input buffer and the output buffer of the algorithm (section 5.2.4)
pub record Buffers : Type 0 where
  pub input : List ℕ
  pub output : List ℕ

-- whether a buffer begins with this prefix
abbrev pub has_prefix : List ℕ → List ℕ → Bool
has_prefix prefix buffer = bytes_eq (take (length prefix) buffer) prefix

-- the first path segment of a buffer, "including the initial `/` character (if any) and any
-- subsequent characters up to, but not including, the next `/` character or the end of the input
-- buffer" (section 5.2.4, step 2E)
abbrev pub first_segment : List ℕ → List ℕ
first_segment buffer =
    if starts slash buffer then codes "/" ++ before_any (codes "/") (drop 1 buffer)
    else before_any (codes "/") buffer

-- what follows the first path segment of a buffer
abbrev pub after_first_segment : List ℕ → List ℕ
after_first_segment buffer =
    if starts slash buffer then from_any (codes "/") (drop 1 buffer)
    else from_any (codes "/") buffer

-- one pass of the loop (section 5.2.4, steps 2A to 2E)
abbrev pub step : Buffers → Buffers
step b =
    -- A. "If the input buffer begins with a prefix of `../` or `./`, then remove that prefix"
    if has_prefix (codes "../") b.input
    then record { input = drop 3 b.input; output = b.output }
    else (if has_prefix (codes "./") b.input
    then record { input = drop 2 b.input; output = b.output }
    -- B. "if the input buffer begins with a prefix of `/./` or `/.`, where `.` is a complete path
    -- segment, then replace that prefix with `/`"
    else (if has_prefix (codes "/./") b.input
    then record { input = codes "/" ++ drop 3 b.input; output = b.output }
    else (if bytes_eq b.input (codes "/.")
    then record { input = codes "/"; output = b.output }
    -- C. "if the input buffer begins with a prefix of `/../` or `/..`, where `..` is a complete
    -- path segment, then replace that prefix with `/` in the input buffer and remove the last
    -- segment and its preceding `/` (if any) from the output buffer"
    else (if has_prefix (codes "/../") b.input
    then record { input = codes "/" ++ drop 4 b.input; output = before_last_slash b.output }
    else (if bytes_eq b.input (codes "/..")
    then record { input = codes "/"; output = before_last_slash b.output }
    -- D. "if the input buffer consists only of `.` or `..`, then remove that"
    else (if bytes_eq b.input (codes ".") || bytes_eq b.input (codes "..")
    then record { input = []; output = b.output }
    -- E. "move the first path segment in the input buffer to the end of the output buffer"
    else record {
      input = after_first_segment b.input;
      output = b.output ++ first_segment b.input;
    }))))))

-- the loop, run until the input buffer is empty, or this many times (section 5.2.4, step 2)
unfoldable pub run : ℕ → Buffers → Buffers
run zero b = b
run (suc n) b = if is_empty b.input then b else run n (step b)

-- what the output buffer holds after the loop: each pass shortens the input buffer, so that it
-- needs no more passes than that has bytes (section 5.2.4, step 3)
unfoldable pub output_of : Buffers → List ℕ
output_of b = (run (length b.input) b).output

-- the path without its dot segments (section 5.2.4)
unfoldable pub remove_dot_segments : List ℕ → List ℕ
remove_dot_segments path = output_of (record { input = path; output = [] })
