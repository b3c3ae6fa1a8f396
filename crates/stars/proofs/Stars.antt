-- The starred cases hold, by computing. Assumes nothing.
use mathlib.Core.Path.{refl}
use Rattle.fields.specs.Field as field
use Rattle.places.specs.Places as places
use Rattle.tables.specs.SheetOf as tables
use Rattle.tables.specs.State as state
use Rattle.steps.specs.Steps as steps
use Rattle.conditions.specs.Condition as conditions
use Rattle.conditions.specs.Words as words
use Rattle.contracts.specs.Contract as contracts
use Rattle.lines.specs.Definition as definitions
use Rattle.lines.specs.LineOne as line-one
use Rattle.lines.specs.Sheet as sheet
use Rattle.requests.specs.Part as part
use Rattle.requests.specs.Rows as row-lines
use Rattle.events.specs.Events as events
use Rattle.reading.specs.Request as request
use Rattle.bitml.specs.Answers as answers
use Rattle.bitml.specs.Ledger as ledger
use Rattle.bitml.specs.Limits as limits
use Rattle.bitml.specs.Lists.{◌&◌, ◌or◌, ◌⇒◌, ask, All, nil, cons}
use Rattle.bitml.specs.Runs as runs
use Rattle.bitml.specs.Rows as rows
use Rattle.bitml.specs.Rule as rule
use Rattle.texts.specs.Text as text
use Rattle.ledger.specs.Values as values
use Rattle.plays.specs.Events as played-events
use Rattle.replies.specs.Before.{early}
use Rattle.checker.specs.Entry.{answer_for_all, answer_for, judged, answer_to, refused_in, text_in}
use Rattle.stars.specs.Stars.{T, M, D, R, printed_for, cases, Stars}

pub stars_hold : Stars
unfolding Stars cases T M D R printed_for text_in refused_in answer_to early judged answer_for_all answer_for
    field.field_len field.text_at field.end_at field.all_digits field.digits_on field.digits_of field.number_of field.number_at field.packed field.packed_of field.word_from field.word_at field.first_at field.line_end_at field.when_read field.below_at field.between_at
    places.step_of places.walk places.place_of places.mark_of places.last_from places.passing_of
    tables.branch_numbers tables.part_numbers tables.pick_e tables.read_e tables.pick_c tables.read_c tables.cond_at tables.action_of tables.branch_of tables.node_of tables.def_of tables.sheet_of
    state.among state.since
    steps.go_on steps.either steps.and_then steps.times
    conditions.store_at conditions.constant_at conditions.clauses_at conditions.secret_at conditions.operands_at conditions.expression_with conditions.expression_in conditions.expression_at conditions.condition_with conditions.condition_in conditions.condition_at
    words.pick words.condition_cell words.expression_cell
    contracts.hold_at contracts.leaf_at contracts.weighed_at contracts.split_at contracts.list_at contracts.open_at contracts.reveal_at contracts.contract_with contracts.action_at contracts.read_branch contracts.inside_at contracts.read_contract
    definitions.deposits_at definitions.owner_at definitions.root_at definitions.owned_at definitions.define_at
    line-one.counts_at line-one.line_one_at
    sheet.beyond sheet.limited sheet.accept sheet.sheet_from sheet.read_sheet
    part.value_at part.past_of part.past_value_at part.past_values_at part.participant_at part.last_participant_at part.make_at part.check_at part.play_at part.last_part_at
    row-lines.row_numbers_at row-lines.row_at row-lines.no_room_at row-lines.with_line row-lines.rows_from row-lines.rows_at
    events.pair_at events.after_pair events.last_pair_at events.wait_at events.sign_at events.tell_at events.fire_at events.values_from events.values_at events.renew_at events.event_at events.next_of events.events_from events.events_at
    request.refused_at request.from_rows request.from_lines request.from_part request.from_sheet request.read_request
    answers.liquid_by answers.made_lines answers.made_rows answers.made_by answers.checked_by answers.event_line answers.event_lines answers.end_of answers.play_lines answers.answer ledger.refusal ledger.after ledger.stipulated limits.deposits_taken limits.within limits.limited_refusal limits.limited_step limits.answers limits.limited_play values.value_of values.behind values.values_of played-events.event_of played-events.events_up_to played-events.events_of
    ◌&◌ ◌or◌ ◌⇒◌ ask
    runs.counts_always
    rows.repeated rows.falling rows.row_fault rows.faulty rows.check
    rule.cost_of rule.cost rule.better rule.choose rule.choices rule.choice_at rule.round rule.rounds rule.reached rule.row_for rule.rows rule.stuck rule.make
    text.digits text.decimal text.field text.fields text.line text.line_text text.lines_text
stars_hold =
    cons refl (cons refl (cons refl (cons refl (cons refl (cons refl (cons refl (cons refl (cons refl (cons refl (cons refl nil))))))))))
