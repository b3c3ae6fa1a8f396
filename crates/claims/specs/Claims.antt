-- ALL THAT IS CLAIMED, on one page: each field with the demand or the request that it answers. Assumes nothing.
--
-- Statements of functions are their contracts, as they stand over the code: that of `judge` says of the value, of every row and of every byte
-- of the text that they are those of `answer_to` (checker/specs/Entry), which is what all records below speak of.
--
-- Believed must be definitions under specs/, and nothing else of the project: the words of document 01 and what is answered (bitml), the grammar
-- (spelling/specs/Spelled and Requests), the bytes of a line (texts/specs/Text), the buffers and the reply (checker/specs/Entry), and of the
-- reader what it refuses, and where. Trusted are the prover's kernel and the logic of the toolchain, the compiler's back end, and of the
-- program the C functions that read and write. No axiom is added.
use Rattle.bitml.specs.Demands.{Demands}
use Rattle.bitml.specs.Stars as words
use Rattle.tables.proofs.mask_of.Statement as mask-of
use Rattle.promises.specs.Texts.{PromisedWhole, OfTexts}
use Rattle.promises.specs.Refusals.{OfReadings, OfEvents}
use Rattle.writing.specs.Back.{Back}
use Rattle.spelling.specs.Spelling.{OfSpelling}
use Rattle.spelling.specs.Requests.{OfRequests}
use Rattle.saving.specs.Tables.{OfTables}
use Rattle.checker.proofs.hurkoxel_judge.Statement as judge
use Rattle.checker.proofs.judge_text.Statement as judge-text
use Rattle.checker.proofs.hurkoxel_read_sheet.Statement as read-sheet
use Rattle.checker.proofs.hurkoxel_write_sheet.Statement as write-sheet
use Rattle.checker.proofs.hurkoxel_refused_line.Statement as refused-line
use Rattle.checker.specs.Demands.{OfReplies}
use Rattle.checker.specs.Refusals.{OfRefusals}
use Rattle.exchange.specs.Exchange.{OfFiles}
use Rattle.parties.specs.Together.{OfParties}
use Rattle.stars.specs.Stars as bytes

pub record Claims : Type 2 where
  -- ---- DEMAND 1: "Any request and any buffers, whatever they held, get an end and one reply that depends on the request and the buffers'
  -- lengths alone." There is no `requires`
  pub entry : {M : Type 1} → judge.statement M
  -- and what the program `judge` prints is the text of that reply, or the line of its refusal
  pub printed : {M : Type 1} → judge-text.statement M
  -- "Bad input is refused with number, line and field": by a number at a place exactly where one of five reasons says so
  pub refusals : OfRefusals
  pub readings : OfReadings
  pub refused-line : {M : Type 1} → refused-line.statement M
  -- ---- DEMAND 2: "The reader, the verdict, the check of rows and the ledger are those of document 01 .., exactly"
  -- The reader: every accepted text spells the sheet that is judged, and no other legible sheet has that text;
  pub spelling : OfSpelling
  -- and every request that is read whole is the text of the request that is answered
  pub requests : OfRequests
  -- "The judging part knows a sheet only by what the reader promises"
  pub promised : PromisedWhole
  -- The verdict over runs and exits, the check of rows by its faults, events by what their lines ask
  pub definitions : Demands
  -- The same of the reply to every request that is read whole: `make`, `makeall`, `why`, `check`, `play`
  pub replies : OfReplies
  -- and which numbers can refuse an event
  pub events : OfEvents
  -- ---- DEMAND 3, both halves, for every sheet that some text reads to; of replies, and over the plain ledger, it is in `replies` and `definitions`
  pub texts : OfTexts
  -- ---- change requests
  -- "A sheet written back"
  pub read-sheet : {M : Type 1} → read-sheet.statement M
  pub write-sheet : {M : Type 1} → write-sheet.statement M
  pub back : Back
  pub tables : OfTables
  -- "All parties in a single call"
  pub parties : OfParties
  -- "Conditions that hold anyway" is `counts-always` in `definitions`, where own branches, and so exits and rows, ask for them
  -- "Rows in node order": `sorted-ruled` in `definitions`, and over files
  pub files : OfFiles
  -- "Signers from a table": "That entry p is 2^p"
  pub signers : {M : Type 1} → mask-of.statement M
  -- "Telling the drafter why" is `explaining` and `same-verdict` in `replies`, and `why` in `definitions`

  -- ---- "Which cases are theorems? The starred ones": over the definitions, whose sheets keep the promises, and over bytes
  pub cases : words.Stars
  pub keepable : words.Promised
  pub cases_as_bytes : bytes.Stars
