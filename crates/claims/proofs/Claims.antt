-- All that is claimed holds. Assumes nothing.
use Rattle.bitml.proofs.Demands.{demands}
use Rattle.bitml.proofs.Stars as words
use Rattle.bitml.proofs.Formed as formed
use Rattle.tables.proofs.mask_of.Met as mask-of
use Rattle.promises.proofs.Whole.{promised_whole}
use Rattle.promises.proofs.Texts.{of_texts}
use Rattle.promises.proofs.Refusals.{of_readings}
use Rattle.promises.proofs.Events.{of_events}
use Rattle.writing.proofs.Claims.{back}
use Rattle.spelling.proofs.Spelling.{of_spelling}
use Rattle.spelling.proofs.Requests.{of_requests}
use Rattle.saving.proofs.Tables.{of_tables}
use Rattle.checker.proofs.hurkoxel_judge.Met as judge
use Rattle.checker.proofs.judge_text.Met as judge-text
use Rattle.checker.proofs.hurkoxel_read_sheet.Met as read-sheet
use Rattle.checker.proofs.hurkoxel_write_sheet.Met as write-sheet
use Rattle.checker.proofs.hurkoxel_refused_line.Met as refused-line
use Rattle.checker.proofs.Demands.{of_replies}
use Rattle.checker.proofs.Refusals.{of_refusals}
use Rattle.exchange.proofs.Exchange.{of_files}
use Rattle.parties.proofs.Together.{of_parties}
use Rattle.stars.proofs.Stars as bytes
use Rattle.claims.specs.Claims.{Claims}

pub claims : Claims
claims =
    record {
      entry = judge.met;
      printed = judge-text.met;
      refusals = of_refusals;
      readings = of_readings;
      refused-line = refused-line.met;
      spelling = of_spelling;
      requests = of_requests;
      promised = promised_whole;
      definitions = demands;
      replies = of_replies;
      events = of_events;
      texts = of_texts;
      read-sheet = read-sheet.met;
      write-sheet = write-sheet.met;
      back = back;
      tables = of_tables;
      parties = of_parties;
      files = of_files;
      signers = mask-of.met;
      cases = words.stars;
      keepable = formed.promised;
      cases_as_bytes = bytes.stars_hold;
    }
