-- The call on one text that a batch makes for each text of a column.
use Rattle.std.specs.Prelude.{ℕ, List, Option, Bool, false, ◌&&◌, nat_lt, is_some}
use Rattle.std.specs.Result.{is_ok, result_ok}
use Rattle.fluent_uri_c.specs.Kinds.{kind_numbered, base_numbered, iri_numbered}
use Rattle.fluent_uri_c.specs.Components.{component_result}
use Rattle.fluent_uri_c.specs.Results.{normalize_result, to_uri_result, resolve_result, decode_result, encode_result, is_possible_length, resolve_normalized_result, takes_memory_for_target}
use Rattle.fluent_uri_c.specs.Mends.{mend_link_result, mend_link_takes_memory, mend_result}
use Rattle.fluent_uri_c.specs.Options.{basic_choice, path_preference, rules_choice}
use Rattle.fluent_uri_c.specs.Relatives.{relativize_result}
use Rattle.fluent_uri_c.specs.Sets.{decoding_set, encoding_set}

-- A call on one text, which a batch makes for each text of a column.
-- It says whether its arguments are valid numbers, whether it takes memory for a text, and the
-- result of a text, if that has one.
pub record SingleCall : Type 0 where
  pub is_valid : Bool
  pub takes_memory : List ℕ → Bool
  pub result : List ℕ → Option (List ℕ)

-- the call of a batch that normalises texts; the numbers are those of their kind and of the options
-- in the C header
abbrev pub normalizing : ℕ → ℕ → SingleCall
normalizing kind options = record {
  is_valid = is_some (kind_numbered kind) && is_some (rules_choice options);
  takes_memory = λ text. is_ok (normalize_result kind options text);
  result = λ text. result_ok (normalize_result kind options text);
}

-- the call of a batch that converts texts of the kind of IRIs with a number of the C header to URIs
abbrev pub converting : ℕ → SingleCall
converting kind = record {
  is_valid = is_some (iri_numbered kind);
  takes_memory = λ text. is_ok (to_uri_result kind text);
  result = λ text. result_ok (to_uri_result kind text);
}

-- the call of a batch that resolves references against a base; the numbers are those of the base's
-- kind and of the options in the C header
abbrev pub resolving : ℕ → ℕ → List ℕ → SingleCall
resolving kind options base = record {
  is_valid = is_some (base_numbered kind) && is_some (basic_choice options)
      && is_possible_length base;
  takes_memory = λ text. takes_memory_for_target (resolve_result kind options base text);
  result = λ text. result_ok (resolve_result kind options base text);
}

-- the call of a batch that resolves references against a base, and normalises the targets; the
-- numbers are those of the base's kind and of the options in the C header
abbrev pub resolving_normalized : ℕ → ℕ → List ℕ → SingleCall
resolving_normalized kind options base = record {
  is_valid = is_some (base_numbered kind) && is_some (rules_choice options)
      && is_possible_length base;
  takes_memory = λ text. is_ok (resolve_normalized_result kind options base text);
  result = λ text. result_ok (resolve_normalized_result kind options base text);
}

-- the call of a batch that makes references which lead from a base to targets; the numbers are
-- those of their kind and of the options in the C header
abbrev pub relativizing : ℕ → ℕ → List ℕ → SingleCall
relativizing kind options base = record {
  is_valid = is_some (base_numbered kind) && is_some (path_preference options)
      && is_possible_length base;
  takes_memory = λ text. is_ok (relativize_result kind options base text);
  result = λ text. result_ok (relativize_result kind options base text);
}

-- the call of a batch that mends texts to the kind with a number of the C header
abbrev pub mending : ℕ → SingleCall
mending kind = record {
  is_valid = is_some (kind_numbered kind);
  takes_memory = λ text. is_ok (mend_result kind text);
  result = λ text. result_ok (mend_result kind text);
}

-- the call of a batch that mends links of pages to the kind with a number of the C header
abbrev pub mending_links : ℕ → SingleCall
mending_links kind = record {
  is_valid = is_some (kind_numbered kind);
  takes_memory = mend_link_takes_memory kind;
  result = λ text. result_ok (mend_link_result kind text);
}

-- the call of a batch that decodes texts as the component with a number of the C header
abbrev pub decoding : ℕ → SingleCall
decoding component = record {
  is_valid = is_some (decoding_set component);
  takes_memory = λ text. is_ok (decode_result component text);
  result = λ text. result_ok (decode_result component text);
}

-- the call of a batch that encodes bytes as the component with a number of the C header
abbrev pub encoding : ℕ → SingleCall
encoding component = record {
  is_valid = is_some (encoding_set component);
  takes_memory = λ bytes. is_ok (encode_result component bytes);
  result = λ bytes. result_ok (encode_result component bytes);
}

-- the call of a batch that takes a component of texts of a kind; the numbers are the kind's and the
-- component's, from 0 to 7
abbrev pub taking_component : ℕ → ℕ → SingleCall
taking_component kind component = record {
  is_valid = is_some (kind_numbered kind) && nat_lt component 8;
  takes_memory = λ _. false;
  result = component_result (kind_numbered kind) component;
}
