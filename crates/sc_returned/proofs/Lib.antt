mod ArrivalHosts
mod ArrivalNets
mod ArrivalSteps
mod Direct
mod Runs
mod Answers
