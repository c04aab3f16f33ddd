mod EndSteps
mod FinishSteps
mod FoldSteps
mod HeadSteps
mod LineSteps
mod NameSteps
mod WholeSteps
