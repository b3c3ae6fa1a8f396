-- All that specs/Demands states. Assumes nothing.
use Rattle.bitml.specs.Demands.{Demands}
use Rattle.bitml.proofs.Conditions.{counts-always}
use Rattle.bitml.proofs.Trees.{exit_is_tree}
use Rattle.bitml.proofs.Exits.{ranked_exit, exit_ranked}
use Rattle.bitml.proofs.Best.{rank-is_best}
use Rattle.bitml.proofs.Reach.{reached-sound, reached_complete}
use Rattle.bitml.proofs.Checked.{check-is-accepted, check-is-fault}
use Rattle.bitml.proofs.Published.{make-is, published}
use Rattle.bitml.proofs.Sorting.{sorted_keeps, sorted-accepted}
use Rattle.bitml.proofs.Ruling.{make-is-published, sorted-made, sorted-ruled}
use Rattle.bitml.proofs.Liquidity.{liquidity}
use Rattle.bitml.proofs.Why.{why}
use Rattle.bitml.proofs.Taken.{events-taken}

pub demands : Demands
demands =
    record {
      counts-always = counts-always;
      exit_is_tree = exit_is_tree;
      rank-is_exit = λ s wf p n. (ranked_exit s wf p n, exit_ranked s wf p n);
      rank-is_best = rank-is_best;
      reached-is-run = λ s wf n. (reached-sound s n, reached_complete s wf n);
      verdict = λ s wf p. make-is s p wf;
      make-is-published = make-is-published;
      check-is-accepted = check-is-accepted;
      check-is-fault = check-is-fault;
      events-taken = events-taken;
      sorted_keeps = sorted_keeps;
      sorted-ruled = sorted-ruled;
      sorted-made = sorted-made;
      sorted-accepted = sorted-accepted;
      liquidity = liquidity;
      published = λ s wf p. published s p wf;
      why = why;
    }
