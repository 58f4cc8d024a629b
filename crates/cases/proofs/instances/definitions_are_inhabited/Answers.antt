use Rattle.cases.proofs.Stories.{week_passes, week_passes_freely, each_refusal}
use Rattle.cases.proofs.instances.definitions_are_inhabited.Goals as goal

pub returns : goal.returns
returns c = record { answer = tt; week = week_passes; freely = week_passes_freely; refusals = each_refusal }
