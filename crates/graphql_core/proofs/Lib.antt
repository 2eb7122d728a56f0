pub mod grammar
pub mod rules
pub mod first_errors
pub mod lexical
pub mod sources
pub mod strings
pub mod readers
pub mod values
pub mod layouts
pub mod round_trip
pub mod documents
pub mod ByGrammar
pub use Rattle.std.proofs.lemmas.Bool.{false≢true}
unfoldable pub use grammar.*
unfoldable pub use rules.*
unfoldable pub use first_errors.*
unfoldable pub use lexical.*
unfoldable pub use sources.*
unfoldable pub use strings.*
unfoldable pub use readers.*
unfoldable pub use values.*
unfoldable pub use layouts.*
unfoldable pub use round_trip.*
unfoldable pub use documents.*
unfoldable pub use ByGrammar.*
pub use grammar.{same_spelling-true, sees-apart, sees-parts, sees-within, take-or_fail}
pub use rules.{IsFactored-head, IsFactored-prefix, IsFactored-second, IsFactored-sides, IsFactored-symbols, alone_before}
pub use rules.{each_is_factored, tests_alike, unchanged_then, with_more}
pub use lexical.{Sees, tokenization_of, front_sees, has_items, items_unique, no_front, element_at_front}
pub use sources.{token_before, token_follows}
pub use sources.{EndsInMark, HasItemAt, Rise, TokensKept, boundary, ends_after, holds_first, holds_on, items_rise}
pub use sources.{more_items, one_minified, one_position, other_position, place_after, prefix, rise_on, same_position}
pub use sources.{element_before_same, tokens_kept}
pub use readers.{BegunBy, FailsUnseen, IsSide, Leads, Pushes, Stops-after, Stops-before, Stops-node, Stops-turn}
pub use readers.{TakesNone, Turns, Turns-more, Turns-start, Turns-stop, adds_more, adds_none, adds_one, adds_reserved}
pub use readers.{after, before, begun, consumed, each_means, fails, fails_last, fewer, fills, gives_error_by}
pub use readers.{gives_led, halts, here, into, is_list, lacks, lacks_last, leads_in, many_means}
pub use readers.{next_matches, none_given, no_more, none_within, past, placed, pushed, pushes_none, rest_stops}
pub use readers.{same_text_spelling, sees_both, sees_neither, side_first, side_in, side_left, side_node, side_nth}
pub use readers.{side_right, side_second, some_given, some_taken, spelling_differs, stops_one, taken_both, takes_none}
pub use readers.{takes_one, takes_some, takes_token, there, took, turn_appends, turn_fails, unseen_either, unseen_one}
pub use readers.{unseen_symbol, unseen_then, whole}
pub use values.{Anything, ByValues, DependsOnValues, HasCapacity, IsSame, Left, Nests, OfItsOwn, SameLeaf, SameTrees}
pub use values.{Within, accepted_same, all_turns, directives_printable, directives_same, document_alike, each_alike}
pub use values.{each_of_both, each_same, enclosed_alike, enclosed_printable, enclosed_same, joined_same, leaf_except}
pub use values.{leaf_name, left_tree, minified_document, nests_before, nests_open, nests_tree}
pub use values.{optional_arguments_printable, optional_arguments_same, optional_default_printable}
pub use values.{optional_default_same, optional_list_same, optional_same, own_text, parsed_alike, part_printable}
pub use values.{past_tree, right_tree, capacity_back, capacity_both, capacity_first, capacity_leaf, capacity_more, capacity_node, capacity_nothing}
pub use values.{capacity_second, capacity_stop, same_block, same_both, same_first, same_more, same_node, same_second}
pub use values.{same_values_document, some_printable, source_document, spelling_same, there_same, type_printable}
pub use values.{type_same}
pub use layouts.{Rises, all_counted, all_hold, all_seen, and_alone, and_last, and_part, arguments_bounded}
pub use layouts.{block_lines_mean}
pub use strings.{spelled_as}
pub use layouts.{arguments_rise, block_means, block_word, both_fit, both_rise, braces_rise, braces_text, deepest_is}
pub use layouts.{default_bounded, default_rises, directives_alike, directives_bounded, directives_rise, flat_rise}
pub use layouts.{gap_rises, in_parentheses_alike, in_parentheses_rise, in_parentheses_seen, item_here, level_rises}
pub use layouts.{line_end_rises, lines_rise, most_bounded, most_seen, narrower, none_rise, on_ok, rises_as}
pub use layouts.{separated_alike, separated_rise, separated_seen, some_items, string_bounded, string_rises}
pub use layouts.{displays_narrow, text_append, type_rises}
pub use round_trip.{Any, Back, IsMark, Takes, arguments_back, as_word_back, both_back, both_of_each, checked_back}
pub use round_trip.{close_back, directives_back, document_back, dots_back, first_back, five_back, four_back}
pub use round_trip.{gap_back, in_braces_back, in_parentheses_back, lift_back, margin_back, means, more_back}
pub use round_trip.{name_word, node_back, not_listed, nothing_back, open_back, optional_default_back}
pub use round_trip.{punctuator_back, quoted_means, quoted_takes, quoted_word, same_parts, second_back, seven_back}
pub use round_trip.{six_back, some_back, spaces_blank, stop_back, then_gap, three_back, type_back, word_back}
pub use documents.{AreItems, IsGrown, RejectsAlike, as_error, begins_at, by_fault, computed, tokenized_first, exact}
pub use documents.{exact_lax, exit, from_stream, gives_lifted, halts_before, halts_led, has_none, later_document_of}
pub use documents.{later_parse_tree, least_is_first, least_stop, node_lacks, node_passes, not_long, not_wide}
pub use documents.{node_rejected, node_stops, none_goes_on, none_parsed, none_there, one_cause, one_cause_alike}
pub use documents.{one_each, one_least, only_out_of_memory, parsed, read_left, read_rejected, read_stopped, read_whole}
pub use documents.{reads_led, parse_failure, rejected, shared_rows, stops_led, stream_parsed, turn_done, turn_halts}
pub use documents.{unread, unseen, valueless_alike, valueless_not}
